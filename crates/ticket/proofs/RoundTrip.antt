-- The laws of what specs/RoundTrip defines.
use Prim.Native.Nat.{ℕ, zero, suc, ◌+◌, ◌*◌, ◌/◌, ◌%◌, ◌^◌, ◌≤◌, ◌<◌}
use Rattle.std.proofs.Math.Path.{◌≡◌, refl, sym, ap}
use Rattle.std.proofs.Common.{ap₂, subst, ◌∙◌, inl, inr, pow-suc, zero-mul, suc-mul, arith, le-leb, leb-true, eqb-true, length-append, to_z, of_z}
use Rattle.std.specs.Prelude.{◌⊎◌, Bool, true, false, not, ◌&&◌, leb, eqb, length, get_or}
use mathlib.Core.List.{List, [], ◌∷◌, ◌++◌, append_assoc, append-nil}
use Rattle.std.proofs.lemmas.Bool.{eqb-false, not-true}
use Rattle.std.proofs.lemmas.List.{length-map}
use Rattle.std.specs.Int.{w32}
use mir.ValLaws.{to_z-of_z, of_z-to_z, of_z_fits}
use Rattle.ticket.specs.Parser.{Cause, horizon, events, owner, rules, points, bound, layout, trailing, Out, got, refused, Parser, then, ◌>>◌, give, expect, byte, little, many, end, wholly}
use Rattle.temporal.specs.Lists.{All}
use Rattle.temporal.proofs.Lists.{length_tab, get_d_tab}
use Rattle.temporal.specs.Ticket.{Rule, Ticket, Window}
use Rattle.temporal.specs.Ticket.{Lies}
use Rattle.temporal.specs.Plan.{State}
use Rattle.temporal.specs.Run.{ValidRule, Valid, device_flags, Readable}
use Rattle.ticket.specs.Format.{apart, within, rule_test, sound, sound_count, size, Entry, flags_in, windows_in, state_size, read_owner, read_rule, read_ticket, read_window}
use Rattle.ticket.specs.Format.{read_same, read_windows, read_count, each_count, read_counts, flag_counts, read_state}
use Rattle.ticket.specs.Writer.{bytes, each, write_rule, write_ticket, flag_byte, entries, write_window, write_state}
use Rattle.ticket.proofs.Width.{not_got, then_got, stage, expect_fixed, many_length}
use Rattle.ticket.proofs.Fields.{expect_true, both, apart_yes, rule_passes, sound_yes, sound_all, flag_kept, flag_small, flag_read, rule_test_fixed}
use Rattle.ticket.proofs.Signed.{fits_within, in_range, range_in}
use Rattle.ticket.proofs.Stages.{front_read, some_rules, whole, same_number, good_count, same_events, same_devices, whole_state}
use Rattle.ticket.specs.RoundTrip.{Back, Bytes, LiesIn}

-- ---- reading what was written

pub little_forth : (k x : ℕ) (s : List ℕ) → x < 256 ^ k → little k (bytes k x ++ s) ≡ got x s
unfolding little bytes
little_forth zero x s h = ap (λ n. got n s) (omega arith)
little_forth (suc k) x s h =
    let v : x % 256 + 256 * (x / 256) ≡ x = omega arith in
    rw (little_forth k (x / 256) s (omega (arith, pow-suc 256 k)), v)

module _ {A : Type 0} (p : Parser A) (w : A → List ℕ) (P : A → Type 0) (forth : (x : A) (s : List ℕ) → P x → p (w x ++ s) ≡ got x s) where
  pub many_forth : (xs : List A) (s : List ℕ) → All P xs → many p (length xs) (each w xs ++ s) ≡ got xs s
  unfolding many each
  many_forth [] s h = refl
  many_forth (x ∷ xs) s h = rw (append_assoc, forth x (each w xs ++ s) h.0, many_forth xs s h.1)

each_one : (xs : List ℕ) → each (λ b. b ∷ []) xs ≡ xs
unfolding each
each_one [] = refl
each_one (x ∷ xs) = ap (λ l. x ∷ l) (each_one xs)

owner_forth : (b : ℕ) (s : List ℕ) → b ≤ 4 → read_owner (b ∷ s) ≡ got b s
unfolding read_owner
owner_forth b s h = rw (le-leb b 4 h)

owners_forth : (xs : List ℕ) (s : List ℕ) → All (λ b. b ≤ 4) xs → many read_owner (length xs) (xs ++ s) ≡ got xs s
owners_forth xs s h =
    ap (λ l. many read_owner (length xs) (l ++ s)) (sym (each_one xs))
    ∙ many_forth read_owner (λ b. b ∷ []) (λ b. b ≤ 4) owner_forth xs s h

rule_forth : (n : ℕ) (r : Rule) (s : List ℕ) → ValidRule n r → read_rule n (write_rule r ++ s) ≡ got r s
unfolding read_rule write_rule
rule_forth n r s g =
    let k = in_range r.bound g.at_least g.at_most in
    let f = fits_within r.bound k in
    rw (
      little_forth 4 (of_z w32 r.bound) s (omega (arith, (of_z_fits w32 r.bound f).fits)),
      to_z-of_z w32 r.bound f,
      rule_passes n r s (apart_yes n r.from r.to g.from_point g.to_point g.differ) k,
    )

pub ticket_forth : (t : Ticket) (s : List ℕ) → Valid t → read_ticket (write_ticket t ++ s) ≡ got t s
unfolding write_ticket
ticket_forth t s g =
    let n = length t.owners in
    let m = length t.rules in
    simp append_assoc
    (whole _
    (record { horizon = t.horizon; events = n }) _
    (front_read _
    t.horizon _ (little_forth 4 t.horizon _ (omega (arith, g.horizon_limit))) g.horizon_limit
    n _ (little_forth 2 n _ (omega (arith, g.events_limit))) g.events_limit)
    t.owners _ (owners_forth t.owners _ g.owners_known)
    t.rules s
    (some_rules n _ m _ (little_forth 2 m _ (omega (arith, g.rules_limit))) g.rules_limit
    ∙ many_forth (read_rule n) write_rule (ValidRule n) (rule_forth n) t.rules s g.rules_valid))

pub along : {s t : List ℕ} → s ≡ t → Bytes s → Bytes t
along q h i = subst (λ (l : List ℕ). get_or l i 0 < 256) q (h i)

pub byte_back : Back (λ b. b ∷ []) (λ b. b < 256) byte
byte_back [] x t h e = absurd (not_got e)
byte_back (b ∷ s) x t h e =
    let v : b ≡ x = cc in
    let u : s ≡ t = cc in
    (cc, along u (λ i. h (suc i)), omega (arith, h 0))

pub little_back : (k : ℕ) → Back (bytes k) (λ x. x < 256 ^ k) (little k)
unfolding little bytes
little_back zero s x t h e =
    let v : 0 ≡ x = cc in
    let u : s ≡ t = cc in
    (u, along u h, omega arith)
little_back (suc k) [] x t h e = absurd (not_got e)
little_back (suc k) (b ∷ s) x t h e =
    let (y, t₁, e₁, e₂) = then_got (little k s) _ x t e in
    let (q, g, l) = little_back k s y t₁ (λ i. h (suc i)) e₁ in
    let v : b + 256 * y ≡ x = cc in
    let u : t₁ ≡ t = cc in
    let lo : b ≡ x % 256 = omega (arith, h 0) in
    let hi : y ≡ x / 256 = omega (arith, h 0) in
    (rw (q, ← lo, ← hi, u), along u g, omega (arith, h 0, l, pow-suc 256 k))

-- One step of a reading that was done: a field, and a test. What follows, `f` or `q`, was done too.
module _ {A B G : Type 0} (w : A → List ℕ) (P : A → Type 0) (p : Parser A) (back : Back w P p) where
  pub field : (f : A → Parser B) (s : List ℕ) (y : B) (u : List ℕ) → Bytes s → then (p s) f ≡ got y u
      → ((x : A) (t : List ℕ) → p s ≡ got x t → s ≡ w x ++ t → Bytes t → P x → f x t ≡ got y u → G) → G
  field f s y u h e next =
      stage p f s y u e (λ x t q g.
      let b = back s x t h q in
      next x t q b.0 b.1 b.2 g)

pub test : {B G : Type 0} (b : Bool) (k : Cause) (q : Parser B) (s : List ℕ) (y : B) (u : List ℕ) → then (expect b k s) (λ x. q) ≡ got y u
    → (b ≡ true → q s ≡ got y u → G) → G
test true k q s y u e next = next refl e
test false k q s y u e next = absurd (not_got e)

module _ {A : Type 0} (w : A → List ℕ) (P : A → Type 0) (p : Parser A) (back : Back w P p) where
  pub many_back : (m : ℕ) → Back (each w) (All P) (many p m)
  unfolding many each
  many_back zero s [] t h e =
      let u : s ≡ t = cc in
      (u, along u h, tt)
  many_back zero s (x ∷ xs) t h e = absurd (let z : ◌≡◌ {A = ℕ} 0 1 = cc in omega arith)
  many_back (suc m) s xs t h e =
      let (y, t₁, e₁, f₁) = then_got (p s) _ xs t e in
      let (ys, t₂, e₂, f₂) = then_got (many p m t₁) _ xs t f₁ in
      let (q₁, g₁, a₁) = back s y t₁ h e₁ in
      let (q₂, g₂, a₂) = many_back m t₁ ys t₂ g₁ e₂ in
      let same : y ∷ ys ≡ xs = cc in
      let u : t₂ ≡ t = cc in
      rw (← same) (q₁ ∙ ap (λ l. w y ++ l) (q₂ ∙ ap (λ l. each w ys ++ l) u) ∙ sym (append_assoc (w y) (each w ys) t), along u g₂, (a₁, a₂))

owner_back : Back (λ b. b ∷ []) (λ b. b ≤ 4) read_owner
unfolding read_owner
owner_back s x t h e =
    field (λ b. b ∷ []) (λ b. b < 256) byte byte_back _ s x t h e (λ b t₁ e₁ q g l f₁.
    test (leb b 4) owner _ t₁ x t f₁ (λ k f₂.
    let v : b ≡ x = cc in
    let u : t₁ ≡ t = cc in
    (rw (← v, ← u) q, along u g, omega (arith, leb-true b 4 k))))

-- A rule that passes the tests is valid.
pub valid_rule : (n : ℕ) (r : Rule) (s : List ℕ) (x : Unit {0}) (u : List ℕ) → rule_test n r s ≡ got x u → ValidRule n r
valid_rule n r s x u e =
    test (apart n r.from r.to) points _ s x u e (λ k₁ f₁.
    let k₂ = expect_true (within r.bound) bound s u x f₁ in
    let k₃ = both (leb r.from n && leb r.to n) (not (eqb r.from r.to)) k₁ in
    let k₄ = both (leb r.from n) (leb r.to n) k₃.0 in
    record {
      from_point = leb-true r.from n k₄.0;
      to_point = leb-true r.to n k₄.1;
      differ = eqb-false r.from r.to (not-true (eqb r.from r.to) k₃.1);
      at_least = (range_in r.bound k₂).0;
      at_most = (range_in r.bound k₂).1;
    })

rule_back : (n : ℕ) → Back write_rule (ValidRule n) (read_rule n)
unfolding read_rule write_rule
rule_back n s x t h e =
    field (λ b. b ∷ []) (λ b. b < 256) byte byte_back _ s x t h e (λ i t₁ e₁ q₁ g₁ l₁ f₁.
    field (λ b. b ∷ []) (λ b. b < 256) byte byte_back _ t₁ x t g₁ f₁ (λ j t₂ e₂ q₂ g₂ l₂ f₂.
    field (bytes 4) (λ c. c < 256 ^ 4) (little 4) (little_back 4) _ t₂ x t g₂ f₂ (λ c t₃ e₃ q₃ g₃ l₃ f₃.
    let r : Rule = record { from = i; to = j; bound = to_z w32 c } in
    stage (rule_test n r) _ t₃ x t f₃ (λ y t₄ e₄ f₄.
    let same : r ≡ x = cc in
    let u : t₃ ≡ t = sym (rule_test_fixed n r t₃ y t₄ e₄).0 ∙ (let v : t₄ ≡ t = cc in v) in
    let d : c ≡ of_z w32 (to_z w32 c) = sym (of_z-to_z w32 c (record { fits = omega (arith, l₃) })) in
    rw (← same) (
      q₁ ∙ ap (λ z. i ∷ z) (q₂ ∙ ap (λ z. j ∷ z) (q₃ ∙ ap (λ z. bytes 4 c ++ z) u ∙ ap (λ z. bytes 4 z ++ t) d)),
      along u g₃,
      valid_rule n r t₃ y t₄ e₄,
    )))))

put_together : (h n m : ℕ) (os : List ℕ) (rs : List Rule) (s t₁ t₂ t₃ t₄ t : List ℕ)
    → s ≡ bytes 4 h ++ t₁ → t₁ ≡ bytes 2 n ++ t₂ → t₂ ≡ os ++ t₃ → t₃ ≡ bytes 2 m ++ t₄ → t₄ ≡ each write_rule rs ++ t
    → length os ≡ n → length rs ≡ m → s ≡ write_ticket (record { horizon = h; owners = os; rules = rs }) ++ t
unfolding write_ticket
put_together h n m os rs s t₁ t₂ t₃ t₄ t q₁ q₂ q₃ q₄ q₅ ln lm = rw (ln, lm) (simp append_assoc (rw (← q₅, ← q₄, ← q₃, ← q₂) q₁))

pub ticket_back : (s : List ℕ) (x : Ticket) (t : List ℕ) → Bytes s → read_ticket s ≡ got x t → (s ≡ write_ticket x ++ t) × Bytes t × Valid x
unfolding read_ticket write_ticket
ticket_back s x t h e =
    field (bytes 4) (λ y. y < 256 ^ 4) (little 4) (little_back 4) _ s x t h e (λ hz t₁ e₁ q₁ g₁ l₁ f₁.
    test (leb hz 1000000) horizon _ t₁ x t f₁ (λ k₁ f₂.
    field (bytes 2) (λ y. y < 256 ^ 2) (little 2) (little_back 2) _ t₁ x t g₁ f₂ (λ n t₂ e₂ q₂ g₂ l₂ f₃.
    test (leb n 40) events _ t₂ x t f₃ (λ k₂ f₄.
    field (each (λ b. b ∷ [])) (All (λ b. b ≤ 4)) (many read_owner n) (many_back (λ b. b ∷ []) (λ b. b ≤ 4) read_owner owner_back n) _ t₂ x t g₂ f₄ (λ os t₃ e₃ q₃ g₃ l₃ f₅.
    field (bytes 2) (λ y. y < 256 ^ 2) (little 2) (little_back 2) _ t₃ x t g₃ f₅ (λ m t₄ e₄ q₄ g₄ l₄ f₆.
    test (leb m 256) rules _ t₄ x t f₆ (λ k₃ f₇.
    field (each write_rule) (All (ValidRule n)) (many (read_rule n) m) (many_back write_rule (ValidRule n) (read_rule n) (rule_back n) m) _ t₄ x t g₄ f₇ (λ rs t₅ e₅ q₅ g₅ l₅ f₈.
    let ln : length os ≡ n = many_length read_owner n t₂ os t₃ e₃ in
    let lm : length rs ≡ m = many_length (read_rule n) m t₄ rs t₅ e₅ in
    let same : ◌≡◌ {A = Ticket} (record { horizon = hz; owners = os; rules = rs }) x = cc in
    let u : t₅ ≡ t = cc in
    rw (← same) (
      put_together hz n m os rs s t₁ t₂ t₃ t₄ t q₁ q₂ (q₃ ∙ ap (λ l. l ++ t₃) (each_one os)) q₄ (q₅ ∙ ap (λ l. each write_rule rs ++ l) u) ln lm,
      along u g₅,
      record {
        horizon_limit = leb-true hz 1000000 k₁;
        events_limit = rw ln (leb-true n 40 k₂);
        owners_known = l₃;
        rules_limit = rw lm (leb-true m 256 k₃);
        rules_valid = rw ln l₅;
      },
    )))))))))

-- ---- windows with their flags

pub flags_entries : (fs : List Bool) (ws : List Window) → length fs ≡ length ws → flags_in (entries fs ws) ≡ fs
unfolding entries
flags_entries [] ws h = refl
flags_entries (f ∷ fs) [] h = absurd (omega arith)
flags_entries (f ∷ fs) (w ∷ ws) h = ap (λ l. f ∷ l) (flags_entries fs ws (omega arith))

pub windows_entries : (fs : List Bool) (ws : List Window) → length fs ≡ length ws → windows_in (entries fs ws) ≡ ws
unfolding entries
windows_entries [] [] h = refl
windows_entries [] (w ∷ ws) h = absurd (omega arith)
windows_entries (f ∷ fs) [] h = absurd (omega arith)
windows_entries (f ∷ fs) (w ∷ ws) h = ap (λ l. w ∷ l) (windows_entries fs ws (omega arith))

entries_in : (es : List Entry) → entries (flags_in es) (windows_in es) ≡ es
unfolding entries
entries_in [] = refl
entries_in (e ∷ es) = ap (λ l. e ∷ l) (entries_in es)

lies_in : (h : ℕ) (es : List Entry) → All (LiesIn h) es → All (Lies h) (windows_in es)
lies_in h [] g = tt
lies_in h (e ∷ es) g = (g.0, lies_in h es g.1)

in_lies : (h : ℕ) (es : List Entry) → All (Lies h) (windows_in es) → All (LiesIn h) es
in_lies h [] g = tt
in_lies h (e ∷ es) g = (g.0, in_lies h es g.1)

-- ---- counts

-- A count for each x, at least x; two bytes hold it.
record Counted (xs ks : List ℕ) : Type 0 where
  count : length ks ≡ length xs
  least : (i : ℕ) → i < length xs → get_or xs i 0 ≤ get_or ks i 0
  most : (i : ℕ) → i < length xs → get_or ks i 0 ≤ 65535

counts_forth : (xs ks s : List ℕ) → Counted xs ks → each_count xs (each (bytes 2) ks ++ s) ≡ got ks s
unfolding each_count each
counts_forth [] [] s g = refl
counts_forth [] (k ∷ ks) s g = absurd (omega (arith, g.count))
counts_forth (x ∷ xs) [] s g = absurd (omega (arith, g.count))
counts_forth (x ∷ xs) (k ∷ ks) s g =
    let most = g.most 0 (omega arith) in
    rw (
      append_assoc,
      good_count x _ k (each (bytes 2) ks ++ s) (little_forth 2 k _ (omega (arith, most))) (rw (le-leb x k (g.least 0 (omega arith)), le-leb k 65535 most)),
      counts_forth xs ks s (record {
        count = omega (arith, g.count);
        least = λ i l. g.least (suc i) (omega arith);
        most = λ i l. g.most (suc i) (omega arith);
      }),
    )

count_back : (x : ℕ) → Back (bytes 2) (λ k. (x ≤ k) × (k ≤ 65535)) (read_count x)
unfolding read_count
count_back x s y t h e =
    field (bytes 2) (λ k. k < 256 ^ 2) (little 2) (little_back 2) _ s y t h e (λ k t₁ e₁ q g l f₁.
    test (sound_count x k) layout _ t₁ y t f₁ (λ b f₂.
    let v : k ≡ y = cc in
    let u : t₁ ≡ t = cc in
    let c = both (leb x k) (leb k 65535) b in
    (rw (← v, ← u) q, along u g, rw (← v) (leb-true x k c.0, leb-true k 65535 c.1))))

counts_back : (xs : List ℕ) → Back (each (bytes 2)) (Counted xs) (each_count xs)
unfolding each_count each
counts_back [] s [] t h e =
    let u : s ≡ t = cc in
    (u, along u h, record { count = refl; least = λ i l. absurd (omega arith); most = λ i l. absurd (omega arith) })
counts_back [] s (k ∷ ks) t h e = absurd (let z : ◌≡◌ {A = ℕ} 0 1 = cc in omega arith)
counts_back (x ∷ xs) s ys t h e =
    let (k, t₁, e₁, f₁) = then_got (read_count x s) _ ys t e in
    let (ks, t₂, e₂, f₂) = then_got (each_count xs t₁) _ ys t f₁ in
    let (q₁, g₁, a₁) = count_back x s k t₁ h e₁ in
    let (q₂, g₂, a₂) = counts_back xs t₁ ks t₂ g₁ e₂ in
    let same : k ∷ ks ≡ ys = cc in
    let u : t₂ ≡ t = cc in
    rw (← same) (
      q₁ ∙ ap (λ l. bytes 2 k ++ l) (q₂ ∙ ap (λ l. each (bytes 2) ks ++ l) u) ∙ sym (append_assoc (bytes 2 k) (each (bytes 2) ks) t),
      along u g₂,
      more k ks a₁ a₂,
    )
  where
    more : (k : ℕ) (ks : List ℕ) → (x ≤ k) × (k ≤ 65535) → Counted xs ks → Counted (x ∷ xs) (k ∷ ks)
    more k ks a g = record { count = omega (arith, g.count); least = least; most = most }
      where
        least : (i : ℕ) → i < suc (length xs) → get_or (x ∷ xs) i 0 ≤ get_or (k ∷ ks) i 0
        least zero l = a.0
        least (suc i) l = g.least i (omega arith)

        most : (i : ℕ) → i < suc (length xs) → get_or (k ∷ ks) i 0 ≤ 65535
        most zero l = a.1
        most (suc i) l = g.most i (omega arith)

-- What a readable state says of its counts.
module _ (owners : List ℕ) (flags : List Bool) (ks : List ℕ) where
  counts_counted : length ks ≡ 5 → ((o : ℕ) → o < 5 → device_flags o owners flags ≤ get_or ks o 0) → ((o : ℕ) → o < 5 → get_or ks o 0 ≤ 65535)
      → Counted (flag_counts owners flags) ks
  counts_counted e f g =
      let five = length_tab 5 (λ o. device_flags o owners flags) in
      record {
        count = e ∙ sym five;
        least = λ o l. let m : o < 5 = omega (arith, five) in omega (arith, f o m, get_d_tab 5 (λ i. device_flags i owners flags) 0 o m);
        most = λ o l. g o (omega (arith, five));
      }

  counted_counts : Counted (flag_counts owners flags) ks
      → (length ks ≡ 5) × ((o : ℕ) → o < 5 → device_flags o owners flags ≤ get_or ks o 0) × ((o : ℕ) → o < 5 → get_or ks o 0 ≤ 65535)
  counted_counts g =
      let five = length_tab 5 (λ o. device_flags o owners flags) in (
        g.count ∙ five,
        λ o l. omega (arith, g.least o (omega (arith, five)), get_d_tab 5 (λ i. device_flags i owners flags) 0 o l),
        λ o l. g.most o (omega (arith, five)),
      )

-- ---- records: reading what was written

pub window_forth : (h : ℕ) → h ≤ 1000000 → (e : Entry) (s : List ℕ) → LiesIn h e → read_window h (write_window e ++ s) ≡ got e s
unfolding read_window write_window
window_forth h l e s g =
    let w = e.window in
    let lo = g.0 in
    let hi = g.1 in
    rw (
      append_assoc,
      little_forth 4 w.opens (bytes 4 w.closes ++ s) (omega arith),
      little_forth 4 w.closes s (omega arith),
      sound_yes h (flag_byte e.committed) w.opens w.closes (flag_small e.committed) lo hi,
      flag_read e.committed,
    )

pub windows_forth : (n h : ℕ) (es : List Entry) (s : List ℕ) → n ≤ 40 → h ≤ 1000000 → length es ≡ n → All (LiesIn h) es
    → read_windows n h (bytes 2 n ++ (each write_window es ++ s)) ≡ got es s
windows_forth n h es s few low long lies =
    same_events n h _ _ (same_number n _ n _ (little_forth 2 n _ (omega arith)) refl)
    ∙ ap (λ k. many (read_window h) k (each write_window es ++ s)) (sym long)
    ∙ many_forth (read_window h) write_window (LiesIn h) (window_forth h low) es s lies

pub state_forth : (x : State) (s : List ℕ) → Readable x → read_state (write_state x ++ s) ≡ got x s
unfolding write_state
state_forth x s g =
    let t = x.ticket in
    let h = t.horizon in
    let es = entries x.flags x.windows in
    let same : length x.flags ≡ length x.windows = omega (arith, g.flags_count, g.windows_count) in
    let fl = flags_entries x.flags x.windows same in
    let wl = windows_entries x.flags x.windows same in
    let long : length es ≡ length t.owners = omega (arith, length-map es (λ (e : Entry). e.window), ap length wl, g.windows_count) in
    rw g.windows_count
    (simp append_assoc
    (whole_state _
    t _ (ticket_forth t _ g.valid)
    es _ (windows_forth (length t.owners) h es _ g.valid.events_limit g.valid.horizon_limit long
    (in_lies h es (subst (All (Lies h)) (sym wl) g.windows_lie)))
    x.counts s
    (same_devices (flag_counts t.owners (flags_in es)) _
    _ (same_number 5 _ 5 _ (little_forth 2 5 _ (omega arith)) refl)
    ∙ counts_forth (flag_counts t.owners (flags_in es)) x.counts s
    (subst (λ fs. Counted (flag_counts t.owners fs) x.counts) (sym fl)
    (counts_counted t.owners x.flags x.counts g.counts_count g.counts_least g.counts_most)))
    ∙ ap₂ (λ fs ws. got (record { ticket = t; windows = ws; flags = fs; counts = x.counts }) s) fl wl))

-- ---- records: writing what was read

window_back : (h : ℕ) → Back write_window (LiesIn h) (read_window h)
unfolding read_window write_window
window_back h s x t k e =
    field (λ b. b ∷ []) (λ b. b < 256) byte byte_back _ s x t k e (λ f t₁ e₁ q₁ g₁ l₁ f₁.
    field (bytes 4) (λ y. y < 256 ^ 4) (little 4) (little_back 4) _ t₁ x t g₁ f₁ (λ a t₂ e₂ q₂ g₂ l₂ f₂.
    field (bytes 4) (λ y. y < 256 ^ 4) (little 4) (little_back 4) _ t₂ x t g₂ f₂ (λ b t₃ e₃ q₃ g₃ l₃ f₃.
    test (sound h f a b) layout _ t₃ x t f₃ (λ k₁ f₄.
    let same : ◌≡◌ {A = Entry} (record { committed = eqb f 1; window = record { opens = a; closes = b } }) x = cc in
    let u : t₃ ≡ t = cc in
    let (small, order, below) = sound_all h f a b k₁ in
    let kept : f ≡ flag_byte (eqb f 1) = sym (flag_kept f small) in
    rw (← same) (
      q₁ ∙ ap (λ r. f ∷ r) (q₂ ∙ ap (λ r. bytes 4 a ++ r) (q₃ ∙ ap (λ r. bytes 4 b ++ r) u) ∙ sym (append_assoc (bytes 4 a) (bytes 4 b) t)) ∙ ap (λ z. z ∷ (bytes 4 a ++ bytes 4 b) ++ t) kept,
      along u g₃,
      (order, below),
    )))))

same_back : (x : ℕ) (s : List ℕ) (u : Unit {0}) (t : List ℕ) → Bytes s → read_same x s ≡ got u t → (s ≡ bytes 2 x ++ t) × Bytes t
unfolding read_same
same_back x s u t h e =
    field (bytes 2) (λ y. y < 256 ^ 2) (little 2) (little_back 2) _ s u t h e (λ k t₁ e₁ q g l f₁.
    let same = eqb-true k x (expect_true (eqb k x) layout t₁ t u f₁) in
    let v : t₁ ≡ t = sym (expect_fixed (eqb k x) layout t₁ u t f₁).0 in
    (rw (← same, ← v) q, along v g))

-- The section of n windows, and that of counts.
windows_back : (n h : ℕ) → Back (λ es. bytes 2 n ++ each write_window es) (λ es. All (LiesIn h) es × (length es ≡ n)) (read_windows n h)
unfolding read_windows
windows_back n h s es u k e =
    stage (read_same n) _ s es u e (λ x s₁ e₁ f₁.
    let (q₁, g₁) = same_back n s x s₁ k e₁ in
    let (q₂, g₂, v₂) = many_back write_window (LiesIn h) (read_window h) (window_back h) n s₁ es u g₁ f₁ in
    (q₁ ∙ ap (λ l. bytes 2 n ++ l) q₂ ∙ sym (append_assoc (bytes 2 n) (each write_window es) u), g₂, (v₂, many_length (read_window h) n s₁ es u f₁)))

counts_section : (xs : List ℕ) → Back (λ ks. bytes 2 5 ++ each (bytes 2) ks) (Counted xs) (read_counts xs)
unfolding read_counts
counts_section xs s ks u k e =
    stage (read_same 5) _ s ks u e (λ x s₁ e₁ f₁.
    let (q₁, g₁) = same_back 5 s x s₁ k e₁ in
    let (q₂, g₂, v₂) = counts_back xs s₁ ks u g₁ f₁ in
    (q₁ ∙ ap (λ l. bytes 2 5 ++ l) q₂ ∙ sym (append_assoc (bytes 2 5) (each (bytes 2) ks) u), g₂, v₂))

state_together : (t : Ticket) (n : ℕ) (es : List Entry) (ks s s₁ s₂ u : List ℕ)
    → s ≡ write_ticket t ++ s₁ → s₁ ≡ (bytes 2 n ++ each write_window es) ++ s₂ → s₂ ≡ (bytes 2 5 ++ each (bytes 2) ks) ++ u
    → length (windows_in es) ≡ n → s ≡ write_state (record { ticket = t; windows = windows_in es; flags = flags_in es; counts = ks }) ++ u
unfolding write_state
state_together t n es ks s s₁ s₂ u q₁ q₂ q₃ ln =
    q₁ ∙ ap (λ l. write_ticket t ++ l) (q₂ ∙ ap (λ l. (bytes 2 n ++ each write_window es) ++ l) q₃)
    ∙ rw (ln, entries_in es) (simp append_assoc refl)

pub state_back : Back write_state Readable read_state
unfolding read_state
state_back s x u h e =
    field write_ticket Valid read_ticket ticket_back _ s x u h e (λ t s₁ e₁ q₁ g₁ v₁ f₁.
    let n = length t.owners in
    field (λ es. bytes 2 n ++ each write_window es) (λ es. All (LiesIn t.horizon) es × (length es ≡ n)) (read_windows n t.horizon)
    (windows_back n t.horizon) _ s₁ x u g₁ f₁ (λ es s₂ e₂ q₂ g₂ v₂ f₂.
    let xs = flag_counts t.owners (flags_in es) in
    field (λ ks. bytes 2 5 ++ each (bytes 2) ks) (Counted xs) (read_counts xs) (counts_section xs) _ s₂ x u g₂ f₂ (λ ks s₃ e₃ q₃ g₃ v₃ f₃.
    let lw : length (windows_in es) ≡ n = length-map es (λ (y : Entry). y.window) ∙ v₂.1 in
    let lf : length (flags_in es) ≡ n = length-map es (λ (y : Entry). y.committed) ∙ v₂.1 in
    let c = counted_counts t.owners (flags_in es) ks v₃ in
    let same : ◌≡◌ {A = State} (record { ticket = t; windows = windows_in es; flags = flags_in es; counts = ks }) x = cc in
    let v : s₃ ≡ u = cc in
    rw (← same) (
      state_together t n es ks s s₁ s₂ u q₁ q₂ (q₃ ∙ ap (λ l. (bytes 2 5 ++ each (bytes 2) ks) ++ l) v) lw,
      along v g₃,
      record {
        valid = v₁;
        windows_count = lw;
        windows_lie = lies_in t.horizon es v₂.0;
        flags_count = lf;
        counts_count = c.0;
        counts_least = c.1;
        counts_most = c.2;
      },
    ))))

-- ---- how long they are

pub length_bytes : (k x : ℕ) → length (bytes k x) ≡ k
unfolding bytes
length_bytes zero x = refl
length_bytes (suc k) x = ap suc (length_bytes k (x / 256))

pub length_each : {A : Type 0} (w : A → List ℕ) (k : ℕ) → ((x : A) → length (w x) ≡ k) → (xs : List A) → length (each w xs) ≡ length xs * k
unfolding each
length_each w k h [] = sym (zero-mul k)
length_each w k h (x ∷ xs) = length-append (w x) (each w xs) ∙ omega (arith, h x, length_each w k h xs, suc-mul (length xs) k)

pub length_rule : (r : Rule) → length (write_rule r) ≡ 6
unfolding write_rule
length_rule r = omega (arith, length_bytes 4 (of_z w32 r.bound))

pub length_ticket : (t : Ticket) → length (write_ticket t) ≡ size t
unfolding write_ticket
length_ticket t =
    simp length-append
    (omega (
      arith,
      length_bytes 4 t.horizon,
      length_bytes 2 (length t.owners),
      length_bytes 2 (length t.rules),
      length_each write_rule 6 length_rule t.rules,
    ))

pub length_window : (e : Entry) → length (write_window e) ≡ 9
unfolding write_window
length_window e =
    let w = e.window in
    omega (arith, length-append (bytes 4 w.opens) (bytes 4 w.closes), length_bytes 4 w.opens, length_bytes 4 w.closes)

length_state : (x : State) → length x.flags ≡ length x.windows → length x.counts ≡ 5 → length (write_state x) ≡ state_size x
unfolding write_state
length_state x same five =
    let es = entries x.flags x.windows in
    simp length-append
    (omega (
      arith,
      length_ticket x.ticket,
      length_bytes 2 (length x.windows),
      length_bytes 2 5,
      length_each (bytes 2) 2 (length_bytes 2) x.counts,
      length_each write_window 9 length_window es,
      length-map es (λ (e : Entry). e.window),
      ap length (windows_entries x.flags x.windows same),
    ))

pub length_readable : (x : State) → Readable x → length (write_state x) ≡ state_size x
length_readable x g = length_state x (omega (arith, g.flags_count, g.windows_count)) g.counts_count

-- What p reads of all the bytes that w writes, and what w writes of all the bytes that p reads.
module _ {A : Type 0} (w : A → List ℕ) (P : A → Type 0) (p : Parser A) where
  pub wholly_forth : ((x : A) (s : List ℕ) → P x → p (w x ++ s) ≡ got x s) → (x : A) → P x → wholly p (w x) ≡ got x []
  wholly_forth forth x g = rw (subst (λ (l : List ℕ). p l ≡ got x []) (append-nil (w x)) (forth x [] g))

  pub wholly_back : Back w P p → (s : List ℕ) (x : A) (u : List ℕ) → Bytes s → wholly p s ≡ got x u → (w x ≡ s) × P x
  wholly_back back s x u h e = stage p (λ y. end >> give y) s x u e go
    where
      go : (y : A) (t : List ℕ) → p s ≡ got y t → (end >> give y) t ≡ got x u → (w x ≡ s) × P x
      go y [] q f =
          let same : y ≡ x = cc in
          let b = back s y [] h q in
          rw (← same) (sym (b.0 ∙ append-nil (w y)), b.2)
      go y (b ∷ t) q f = absurd (not_got f)

-- A valid ticket is read from the bytes that are written of it.
pub read_written : (k : Ticket) → Valid k → wholly read_ticket (write_ticket k) ≡ got k []
read_written = wholly_forth write_ticket Valid read_ticket ticket_forth

-- The bytes that a ticket is read from are those that are written of it, and the ticket is valid.
pub written_read : (s : List ℕ) (k : Ticket) (u : List ℕ) → Bytes s → wholly read_ticket s ≡ got k u → (write_ticket k ≡ s) × Valid k
written_read = wholly_back write_ticket Valid read_ticket ticket_back

-- A readable state is read from the bytes that are written of it.
pub read_written_state : (x : State) → Readable x → wholly read_state (write_state x) ≡ got x []
read_written_state = wholly_forth write_state Readable read_state state_forth

-- The bytes that a record is read from are those that are written of its state, and the state is readable.
pub written_read_state : (s : List ℕ) (x : State) (u : List ℕ) → Bytes s → wholly read_state s ≡ got x u → (write_state x ≡ s) × Readable x
written_read_state = wholly_back write_state Readable read_state state_back

-- Every list of bytes gets an answer: a value with nothing after it, or a cause.
pub answered : {A : Type 0} (p : Parser A) (s : List ℕ) → ((x : A) × (wholly p s ≡ got x [])) ⊎ ((k : Cause) × (wholly p s ≡ refused k))
answered p s = go (p s) refl
  where
    go : (o : Out _) → p s ≡ o → ((x : _) × (wholly p s ≡ got x [])) ⊎ ((k : Cause) × (wholly p s ≡ refused k))
    go (got x []) e = inl (x, rw e)
    go (got x (b ∷ t)) e = inr (trailing, rw e)
    go (refused k) e = inr (k, rw e)
