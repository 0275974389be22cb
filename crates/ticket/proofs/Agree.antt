-- A struct and what it says, reading and writing, agree: for tickets, and for records.
-- `content` undoes `stored`, `state_of` undoes `stored_state`, and what was read is written as it was. Assumes nothing.
use Rattle.std.specs.Prelude.{ℕ, zero, suc, ◌≤◌, ◌<◌, ◌≡◌, refl, List, [], ◌∷◌, ◌++◌, map, leb, eqb, false, length, get_or, take, pos}
use Rattle.std.proofs.Common.{sym, ap, ap₂, subst, ◌∙◌, ⊎_elim, le_of_suc-le-suc, arith, leb-true, take-suc}
use Rattle.std.proofs.Math.Nat.{le-suc_iff}
use Rattle.std.proofs.Math.ListN.{get_or-append, get_or-map}
use Rattle.std.proofs.lemmas.List.{length-map}
use Rattle.std.proofs.Math.Seq.{take-length}
use Rattle.ticket.specs.Parser.{room, horizon, events, owner, rules, layout, got, Parser, wholly}
use Rattle.temporal.specs.Lists.{All}
use Rattle.temporal.specs.Ticket as temporal
use Rattle.temporal.specs.Ticket.{Rule, Window}
use Rattle.temporal.specs.Ticket.{Lies}
use Rattle.temporal.specs.Plan.{State}
use Rattle.temporal.specs.Run.{ValidRule, Valid, device_flags, Readable}
use Rattle.ticket.specs.Format.{sound, sound_count, read_ticket, read_state}
use Rattle.ticket.specs.Stored.{pad, stored, stored_state}
use Rattle.ticket.specs.Writer.{write_ticket, flag_byte, write_state}
use Rattle.ticket.proofs.Width.{stage}
use Rattle.ticket.specs.RoundTrip.{Bytes}
use Rattle.ticket.proofs.RoundTrip.{test, valid_rule, read_written, written_read, read_written_state, written_read_state}
use Rattle.ticket.specs.Writing.{firsts, owner_in, rule_in, content, tests, test_owner, test_rule, test_ticket, writing, Storable}
use Rattle.ticket.specs.Writing.{flag_in, committed_in, window_in, count_in, state_of, test_window, flags_of, test_count, test_record, writing_record}
use Rattle.ticket.proofs.WritingLaws.{length_firsts, get_d_firsts, owner_passes, window_passes, count_passes}
use Rattle.ticket.proofs.WriteStages.{last_tests, test_passes, last_counts, record_written_lem}
use Rattle.ticket.proofs.Fields.{expect_true, both, sound_all, apart_yes, rule_passes, sound_yes, flag_small, flag_read}
use Rattle.ticket.proofs.Signed.{in_range}
use Rattle.ticket.specs.declared.Ticket.{Ticket}
use Rattle.ticket.specs.declared.Record.{Record}

-- ---- the content of a stored ticket

pub firsts_cong : {A : Type 0} (n : ℕ) (f g : ℕ → A) → ((i : ℕ) → i < n → f i ≡ g i) → firsts n f ≡ firsts n g
unfolding firsts
firsts_cong zero f g h = refl
firsts_cong (suc n) f g h = ap₂ (λ xs x. xs ++ x ∷ []) (firsts_cong n f g (λ i l. h i (omega arith))) (h n (omega arith))

pub firsts_take : {A : Type 0} (l : List A) (d : A) (n : ℕ) → n ≤ length l → firsts n (λ i. get_or l i d) ≡ take n l
unfolding firsts
firsts_take l d zero h = refl
firsts_take l d (suc n) h = rw (firsts_take l d n (omega arith)) (sym (take-suc l n d h))

pub firsts_all : {A : Type 0} (l : List A) (d : A) → firsts (length l) (λ i. get_or l i d) ≡ l
firsts_all l d = firsts_take l d (length l) (omega arith) ∙ take-length l

-- The field f of the rule at i, among the padded fields.
pub field_at : {A B : Type 0} (f : A → B) (d : A) (k : ℕ) (l : List A) (i : ℕ) → i < length l → get_or (pad (f d) k (map f l)) i (f d) ≡ f (get_or l i d)
unfolding pad
field_at f d k l i h = get_or-append (map f l) _ (f d) i (rw length-map h) ∙ get_or-map f l i d

none : Rule
none = record { from = 0; to = 0; bound = pos 0 }

padded_at : (k : ℕ) (l : List ℕ) (i : ℕ) → i < length l → get_or (pad 0 k l) i 0 ≡ get_or l i 0
unfolding pad
padded_at k l i h = get_or-append l _ 0 i h

rule_at_lem : (t : temporal.Ticket) (i : ℕ) → i < length t.rules → rule_in (stored t) i ≡ get_or t.rules i none
unfolding none
rule_at_lem t i h =
    rw (
      field_at (λ (r : Rule). r.from) none 256 t.rules i h,
      field_at (λ (r : Rule). r.to) none 256 t.rules i h,
      field_at (λ (r : Rule). r.bound) none 256 t.rules i h,
    )

-- The struct that reading gives says what was read.
pub content_stored : (t : temporal.Ticket) → content (stored t) ≡ t
content_stored t =
    ap₂ (λ o r. record { horizon = t.horizon; owners = o; rules = r })
    (firsts_cong _ _ _ (padded_at 40 t.owners) ∙ firsts_all t.owners 0)
    (firsts_cong _ _ _ (rule_at_lem t) ∙ firsts_all t.rules none)

-- ---- what is written is valid

-- Among tests that are passed, each one is.
pub tests_each : (c : ℕ → Parser (Unit {0})) (n : ℕ) (s : List ℕ) (x : Unit {0}) (u : List ℕ) → tests n c s ≡ got x u
    → (i : ℕ) → i < n → (v w : List ℕ) × (c i v ≡ got tt w)
unfolding tests
tests_each c zero s x u e i l = absurd (omega arith)
tests_each c (suc n) s x u e i l =
    stage (tests n c) (λ y. c n) s x u e (λ y v q f.
    ⊎_elim
    (λ (h : i < n). tests_each c n s y v q i h)
    (λ (h : suc i ≡ suc n). let same : n ≡ i = omega arith in (v, u, ap (λ k. c k v) (sym same) ∙ f))
    (le-suc_iff.0 l))

all_snoc : {A : Type 0} (P : A → Type 0) (xs : List A) (x : A) → All P xs → P x → All P (xs ++ x ∷ [])
all_snoc P [] x h p = (p, tt)
all_snoc P (y ∷ xs) x h p = (h.0, all_snoc P xs x h.1 p)

pub all_firsts : {A : Type 0} (P : A → Type 0) (f : ℕ → A) (n : ℕ) → ((i : ℕ) → i < n → P (f i)) → All P (firsts n f)
unfolding firsts
all_firsts P f zero h = tt
all_firsts P f (suc n) h = all_snoc P (firsts n f) (f n) (all_firsts P f n (λ i l. h i (omega arith))) (h n (omega arith))

good_owner : (t : Ticket) (i : ℕ) → (v w : List ℕ) × (test_owner t i v ≡ got tt w) → owner_in t i ≤ 4
good_owner t i (v, w, e) = leb-true (owner_in t i) 4 (expect_true (leb (owner_in t i) 4) owner v w tt e)

-- A ticket that passes the tests is valid, and its counts are within the limits.
pub tested_valid : (t : Ticket) (s : List ℕ) (x : Unit {0}) (u : List ℕ) → test_ticket t s ≡ got x u → Valid (content t) × (t.events ≤ 40) × (t.rules ≤ 256)
unfolding test_ticket
tested_valid t s x u e =
    test (leb t.horizon 1000000) horizon _ s x u e (λ k₁ f₁.
    test (leb t.events 40) events _ s x u f₁ (λ k₂ f₂.
    stage (tests t.events (test_owner t)) _ s x u f₂ (λ x₁ v₁ e₁ f₃.
    test (leb t.rules 256) rules _ v₁ x u f₃ (λ k₃ f₄. (
      record {
        horizon_limit = leb-true t.horizon 1000000 k₁;
        events_limit = omega (arith, leb-true t.events 40 k₂, length_firsts t.events (owner_in t));
        owners_known = all_firsts (λ b. b ≤ 4) (owner_in t) t.events (λ i l. good_owner t i (tests_each (test_owner t) t.events s x₁ v₁ e₁ i l));
        rules_limit = omega (arith, leb-true t.rules 256 k₃, length_firsts t.rules (rule_in t));
        rules_valid = all_firsts (ValidRule _) (rule_in t) t.rules (λ i l.
            let (v, w, p) = tests_each (test_rule t) t.rules v₁ x u f₄ i l in
            rw (length_firsts t.events (owner_in t)) (valid_rule t.events (rule_in t i) v tt w p));
      },
      leb-true t.events 40 k₂,
      leb-true t.rules 256 k₃,
    )))))

pub written_valid : (out : List ℕ) (t : Ticket) (bs u : List ℕ) → writing out t [] ≡ got bs u
    → Valid (content t) × (bs ≡ write_ticket (content t)) × (1584 ≤ length out)
unfolding writing
written_valid out t bs u e =
    test (leb 1584 (length out)) room _ [] bs u e (λ k₀ f₀.
    stage (test_ticket t) _ [] bs u f₀ (λ x v q f.
    let same : write_ticket (content t) ≡ bs = cc in
    ((tested_valid t [] x v q).0, sym same, leb-true 1584 (length out) k₀)))

-- What was written is read as the struct's content.
pub written_reads : (out : List ℕ) (t : Ticket) (bs u : List ℕ) → writing out t [] ≡ got bs u → wholly read_ticket bs ≡ got (content t) []
written_reads out t bs u e =
    let g = written_valid out t bs u e in
    ap (wholly read_ticket) g.1 ∙ read_written (content t) g.0

-- ---- what is valid is written

pub tests_pass : (c : ℕ → Parser (Unit {0})) (n : ℕ) → ((i : ℕ) → i < n → c i [] ≡ got tt []) → tests n c [] ≡ got tt []
unfolding tests
tests_pass c zero h = refl
tests_pass c (suc n) h = rw (tests_pass c n (λ i l. h i (omega arith))) (h n (omega arith))

pub all_at : {A : Type 0} (P : A → Type 0) (d : A) (xs : List A) (i : ℕ) → All P xs → i < length xs → P (get_or xs i d)
all_at P d [] i h l = absurd (omega arith)
all_at P d (x ∷ xs) zero h l = h.0
all_at P d (x ∷ xs) (suc i) h l = all_at P d xs i h.1 (le_of_suc-le-suc l)

pub valid_tested : (t : temporal.Ticket) → Valid t → test_ticket (stored t) [] ≡ got tt []
valid_tested t g =
    last_tests (stored t) g.horizon_limit g.events_limit
    (tests_pass (test_owner (stored t)) (length t.owners) (λ i h.
    owner_passes (stored t) i (omega (arith, padded_at 40 t.owners i h, all_at (λ b. b ≤ 4) 0 t.owners i g.owners_known h))))
    g.rules_limit
    ∙ tests_pass (test_rule (stored t)) (length t.rules) (λ i h.
    let r : ValidRule (length t.owners) (rule_in (stored t) i) =
    subst (ValidRule (length t.owners)) (sym (rule_at_lem t i h)) (all_at (ValidRule (length t.owners)) none t.rules i g.rules_valid h) in
    rule_passes _ (rule_in (stored t) i) [] (apart_yes _ _ _ r.from_point r.to_point r.differ) (in_range _ r.at_least r.at_most))

pub valid_written : (out : List ℕ) (t : temporal.Ticket) → Valid t → 1584 ≤ length out → writing out (stored t) [] ≡ got (write_ticket t) []
valid_written out t g l = test_passes out (stored t) l (valid_tested t g) ∙ ap (λ c. got (write_ticket c) []) (content_stored t)

-- Bytes that were read as a ticket are written of its struct again.
pub reread : (out s : List ℕ) (t : temporal.Ticket) (u : List ℕ) → Bytes s → wholly read_ticket s ≡ got t u → 1584 ≤ length out → writing out (stored t) [] ≡ got s []
reread out s t u h e l =
    let b = written_read s t u h e in
    valid_written out t b.1 l ∙ ap (λ c. got c []) b.0

-- ---- the state of a stored record

idle : Window
idle = record { opens = 0; closes = 0 }

window_at_lem : (x : State) (i : ℕ) → i < length x.windows → window_in (stored_state x) i ≡ get_or x.windows i idle
unfolding idle
window_at_lem x i h =
    rw (field_at (λ (w : Window). w.opens) idle 40 x.windows i h, field_at (λ (w : Window). w.closes) idle 40 x.windows i h)

flag_at : (x : State) (i : ℕ) → i < length x.flags → flag_in (stored_state x) i ≡ flag_byte (get_or x.flags i false)
flag_at x i h = field_at flag_byte false 40 x.flags i h

committed_at : (x : State) (i : ℕ) → i < length x.flags → committed_in (stored_state x) i ≡ get_or x.flags i false
committed_at x i h = ap (λ f. eqb f 1) (flag_at x i h) ∙ flag_read (get_or x.flags i false)

pub flags_stored : (x : State) → length x.flags ≡ length x.ticket.owners → (state_of (stored_state x)).flags ≡ x.flags
flags_stored x e =
    ap (λ n. firsts n (committed_in (stored_state x))) (sym e) ∙ firsts_cong _ _ _ (committed_at x) ∙ firsts_all x.flags false

-- An array of five counts holds them.
pub counts_all : (ks : List ℕ) → length ks ≡ 5 → firsts 5 (λ o. get_or ks o 0) ≡ ks
counts_all ks e = ap (λ n. firsts n (λ o. get_or ks o 0)) (sym e) ∙ firsts_all ks 0

counts_stored : (x : State) → length x.counts ≡ 5 → (state_of (stored_state x)).counts ≡ x.counts
counts_stored x e = firsts_cong _ _ _ (λ o l. padded_at 5 x.counts o (omega (arith, e))) ∙ counts_all x.counts e

-- The struct that reading gives says what was read.
pub state_stored : (x : State) → length x.windows ≡ length x.ticket.owners → length x.flags ≡ length x.ticket.owners → length x.counts ≡ 5
    → state_of (stored_state x) ≡ x
state_stored x ew ef ec =
    rw (
      content_stored x.ticket,
      ap (λ n. firsts n (window_in (stored_state x))) (sym ew) ∙ firsts_cong _ _ _ (window_at_lem x) ∙ firsts_all x.windows idle,
      flags_stored x ef,
      counts_stored x ec,
    )

-- ---- records: what is written is readable

lies_tested : (r : Record) (i : ℕ) → (v w : List ℕ) × (test_window r i v ≡ got tt w) → Lies r.ticket.horizon (window_in r i) × (flag_in r i ≤ 1)
unfolding test_window
lies_tested r i (v, w, e) =
    let x = window_in r i in
    let h = r.ticket.horizon in
    let (small, order, below) = sound_all h (flag_in r i) x.opens x.closes (expect_true (sound h (flag_in r i) x.opens x.closes) layout v w tt e) in
    ((order, below), small)

counted_tested : (r : Record) (o : ℕ) → (v w : List ℕ) × (test_count r o v ≡ got tt w) → (flags_of r o ≤ count_in r o) × (count_in r o ≤ 65535)
unfolding test_count
counted_tested r o (v, w, e) =
    let k = both (leb (flags_of r o) (count_in r o)) (leb (count_in r o) 65535) (expect_true (sound_count (flags_of r o) (count_in r o)) layout v w tt e) in
    (leb-true (flags_of r o) (count_in r o) k.0, leb-true (count_in r o) 65535 k.1)

-- A record that passes the tests says a readable state, and can be stored.
pub tested_readable : (r : Record) (s : List ℕ) (x : Unit {0}) (u : List ℕ) → test_record r s ≡ got x u → Readable (state_of r) × Storable r
unfolding test_record
tested_readable r s x u e =
    stage (test_ticket r.ticket) _ s x u e (λ x₁ v₁ e₁ f₁.
    stage (tests r.ticket.events (test_window r)) _ v₁ x u f₁ (λ x₂ v₂ e₂ f₂.
    let n = r.ticket.events in
    let t = tested_valid r.ticket s x₁ v₁ e₁ in
    let w : (i : ℕ) → i < n → Lies r.ticket.horizon (window_in r i) × (flag_in r i ≤ 1) = λ i l. lies_tested r i (tests_each (test_window r) n v₁ x₂ v₂ e₂ i l) in
    let k : (o : ℕ) → o < 5 → (flags_of r o ≤ count_in r o) × (count_in r o ≤ 65535) = λ o l. counted_tested r o (tests_each (test_count r) 5 v₂ x u f₂ o l) in (
      record {
        valid = t.0;
        windows_count = length_firsts n (window_in r) ∙ sym (length_firsts n (owner_in r.ticket));
        windows_lie = all_firsts (Lies r.ticket.horizon) (window_in r) n (λ i l. (w i l).0);
        flags_count = length_firsts n (committed_in r) ∙ sym (length_firsts n (owner_in r.ticket));
        counts_count = length_firsts 5 (count_in r);
        counts_least = λ o l. omega (arith, (k o l).0, get_d_firsts 5 (count_in r) 0 o l);
        counts_most = λ o l. omega (arith, (k o l).1, get_d_firsts 5 (count_in r) 0 o l);
      },
      record { events_limit = t.1; rules_limit = t.2; flags_known = λ i l. (w i l).1 },
    )))

pub written_readable : (out : List ℕ) (r : Record) (bs u : List ℕ) → writing_record out r [] ≡ got bs u
    → Readable (state_of r) × (bs ≡ write_state (state_of r)) × (1958 ≤ length out)
unfolding writing_record
written_readable out r bs u e =
    test (leb 1958 (length out)) room _ [] bs u e (λ k₀ f₀.
    stage (test_record r) _ [] bs u f₀ (λ x v q f.
    let same : write_state (state_of r) ≡ bs = cc in
    ((tested_readable r [] x v q).0, sym same, leb-true 1958 (length out) k₀)))

-- What was written is read as the state that the struct says.
pub written_reads_state : (out : List ℕ) (r : Record) (bs u : List ℕ) → writing_record out r [] ≡ got bs u → wholly read_state bs ≡ got (state_of r) []
written_reads_state out r bs u e =
    let g = written_readable out r bs u e in
    ap (wholly read_state) g.1 ∙ read_written_state (state_of r) g.0

-- ---- records: what is readable is written

pub readable_tested : (x : State) → Readable x → test_record (stored_state x) [] ≡ got tt []
readable_tested x g =
    let h = x.ticket.horizon in
    last_counts (stored_state x) (valid_tested x.ticket g.valid)
    (tests_pass (test_window (stored_state x)) (length x.ticket.owners) (λ i k.
    let kw : i < length x.windows = omega (arith, g.windows_count) in
    let kf : i < length x.flags = omega (arith, g.flags_count) in
    let w : Lies h (window_in (stored_state x) i) = subst (Lies h) (sym (window_at_lem x i kw)) (all_at (Lies h) idle x.windows i g.windows_lie kw) in
    let f : flag_in (stored_state x) i ≤ 1 = omega (arith, flag_at x i kf, flag_small (get_or x.flags i false)) in
    window_passes (stored_state x) i (sound_yes _ _ _ _ f w.0 w.1)))
    ∙ tests_pass (test_count (stored_state x)) 5 (λ o l.
    let n = padded_at 5 x.counts o (omega (arith, g.counts_count)) in
    let f : flags_of (stored_state x) o ≡ device_flags o x.ticket.owners x.flags =
    ap₂ (device_flags o) (ap (λ (t : temporal.Ticket). t.owners) (content_stored x.ticket)) (flags_stored x g.flags_count) in
    count_passes (stored_state x) o (omega (arith, n, f, g.counts_least o l)) (omega (arith, n, g.counts_most o l)))

pub readable_written : (out : List ℕ) (x : State) → Readable x → 1958 ≤ length out → writing_record out (stored_state x) [] ≡ got (write_state x) []
readable_written out x g l =
    record_written_lem out (stored_state x) l (readable_tested x g) ∙ ap (λ y. got (write_state y) []) (state_stored x g.windows_count g.flags_count g.counts_count)

-- Bytes that were read as a record are written of its struct again.
pub reread_state : (out s : List ℕ) (x : State) (u : List ℕ) → Bytes s → wholly read_state s ≡ got x u → 1958 ≤ length out
    → writing_record out (stored_state x) [] ≡ got s []
reread_state out s x u h e l =
    let b = written_read_state s x u h e in
    readable_written out x b.1 l ∙ ap (λ c. got c []) b.0
