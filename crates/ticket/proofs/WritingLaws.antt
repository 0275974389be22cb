-- Laws of the tests, and of what a struct holds in its first places. Assumes nothing.
use Prim.Native.Nat.{ℕ, zero, suc, ◌+◌, ◌≤◌, ◌<◌}
use Rattle.std.specs.Prelude.{◌≡◌, refl, List, [], ◌∷◌, ◌++◌, leb, ltb, eqb, length, get_or, Bool, true, false, cond, ◌&&◌}
use Rattle.std.proofs.Common.{sym, ap₂, ◌∙◌, add-one, length-append}
use Rattle.std.proofs.Math.Path.{ap}
use Rattle.std.proofs.Math.Logic.{⊎_elim}
use Rattle.std.proofs.Math.Nat.{le-suc_iff}
use native.Mathlib.Omega.{arith}
use borrow.Author.Tests.{le-leb, lt-leb, lt-ltb, le-ltb, eq-eqb, ne_eqb}
use Rattle.ticket.specs.Parser.{Cause, horizon, events, owner, rules, layout, Out, got, refused, Parser, expect}
use Rattle.std.proofs.Math.Bool.{and-false}
use Rattle.temporal.proofs.Lists.{one_most, below_or_not, length_tab, get_d_tab, get_d_past, tab_cong, tab_set}
use Rattle.temporal.specs.Lists.{tab}
use Rattle.temporal.specs.Plan.{raise}
use Rattle.temporal.specs.Run.{device_flags}
use Rattle.ticket.specs.Format.{sound, sound_count, flag_counts}
use Rattle.ticket.specs.Width.{Fixed}
use Rattle.ticket.proofs.Width.{bind_fixed, expect_fixed, give_fixed}
use Rattle.ticket.proofs.Fields.{rule_test_fixed}
use Rattle.ticket.specs.Writing.{firsts, owner_in, rule_in, tests, test_owner, test_rule, test_ticket, flag_in, window_in, count_in, test_window, flags_of, test_count, test_record, left}
use Rattle.ticket.specs.declared.Ticket.{Ticket}
use Rattle.ticket.specs.declared.Record.{Record}

-- A refusal leaves the output as it was.
pub left_refused : (out : List ℕ) (o : Out (List ℕ)) (k : Cause) → o ≡ refused k → out ≡ left out o
left_refused out o k e = ap (left out) (sym e)

-- ---- one test

module _ (t : Ticket) (i : ℕ) where
  pub owner_fails : 4 < owner_in t i → test_owner t i [] ≡ refused owner
  owner_fails h = rw (lt-leb (owner_in t i) 4 h)

  pub owner_passes : owner_in t i ≤ 4 → test_owner t i [] ≡ got tt []
  owner_passes h = rw (le-leb (owner_in t i) 4 h)

  pub owner_fixed : Fixed 0 (test_owner t i)
  owner_fixed = expect_fixed (leb (owner_in t i) 4) owner

module _ (r : Record) (i : ℕ) where
  pub window_test_fixed : Fixed 0 (test_window r i)
  unfolding test_window
  window_test_fixed =
      expect_fixed (sound r.ticket.horizon (flag_in r i) (window_in r i).opens (window_in r i).closes) layout

  pub window_passes : sound r.ticket.horizon (flag_in r i) (window_in r i).opens (window_in r i).closes ≡ true → test_window r i [] ≡ got tt []
  unfolding test_window
  window_passes e = rw e

module _ (r : Record) (o : ℕ) where
  pub count_test_fixed : Fixed 0 (test_count r o)
  unfolding test_count
  count_test_fixed = expect_fixed (sound_count (flags_of r o) (count_in r o)) layout

  pub count_passes : flags_of r o ≤ count_in r o → count_in r o ≤ 65535 → test_count r o [] ≡ got tt []
  unfolding test_count
  count_passes l m = rw (le-leb (flags_of r o) (count_in r o) l, le-leb (count_in r o) 65535 m)

-- ---- a loop of tests

module _ (c : ℕ → Parser (Unit {0})) (s : List ℕ) where
  -- One more test is passed, or is not.
  pub tests_more : (i : ℕ) → tests i c s ≡ got tt s → tests (i + 1) c s ≡ c i s
  unfolding tests
  tests_more i e = rw (add-one, e)

  -- What is refused among the first i is refused among more.
  pub tests_stop : (i n : ℕ) (k : Cause) → i ≤ n → tests i c s ≡ refused k → tests n c s ≡ refused k
  unfolding tests
  tests_stop i zero k l e =
      let z : 0 ≡ i = omega arith in
      ap (λ j. tests j c s) z ∙ e
  tests_stop i (suc n) k l e =
      ⊎_elim
      (λ (h : i ≤ n). rw (tests_stop i n k h e))
      (λ (h : i ≡ suc n). ap (λ j. tests j c s) (sym h) ∙ e)
      (le-suc_iff.0 l)

  pub tests_fixed : ((i : ℕ) → Fixed 0 (c i)) → (n : ℕ) → Fixed 0 (tests n c)
  unfolding tests
  tests_fixed f zero = give_fixed tt
  tests_fixed f (suc n) = bind_fixed 0 0 (tests n c) _ (tests_fixed f n) (λ u. f n)

pub ticket_fixed : (t : Ticket) → Fixed 0 (test_ticket t)
unfolding test_ticket
ticket_fixed t =
    bind_fixed 0 0 (expect (leb t.horizon 1000000) horizon) _ (expect_fixed (leb t.horizon 1000000) horizon) (λ u₁.
    bind_fixed 0 0 (expect (leb t.events 40) events) _ (expect_fixed (leb t.events 40) events) (λ u₂.
    bind_fixed 0 0 (tests t.events (test_owner t)) _ (tests_fixed (test_owner t) [] (owner_fixed t) t.events) (λ u₃.
    bind_fixed 0 0 (expect (leb t.rules 256) rules) _ (expect_fixed (leb t.rules 256) rules) (λ u₄.
    tests_fixed (test_rule t) [] (λ i. rule_test_fixed t.events (rule_in t i)) t.rules))))

pub record_fixed : (r : Record) → Fixed 0 (test_record r)
unfolding test_record
record_fixed r =
    bind_fixed 0 0 (test_ticket r.ticket) _ (ticket_fixed r.ticket) (λ u₁.
    bind_fixed 0 0 (tests r.ticket.events (test_window r)) _ (tests_fixed (test_window r) [] (window_test_fixed r) r.ticket.events) (λ u₂.
    tests_fixed (test_count r) [] (count_test_fixed r) 5))

-- ---- the first ones of a row

pub firsts_more : {A : Type 0} (i : ℕ) (f : ℕ → A) → firsts (i + 1) f ≡ firsts i f ++ f i ∷ []
unfolding firsts
firsts_more i f = rw add-one

pub length_firsts : {A : Type 0} (i : ℕ) (f : ℕ → A) → length (firsts i f) ≡ i
unfolding firsts
length_firsts zero f = refl
length_firsts (suc i) f = omega (arith, length-append (firsts i f) (f i ∷ []), length_firsts i f)

tab_snoc : {A : Type 0} (n : ℕ) (f : ℕ → A) → tab (suc n) f ≡ tab n f ++ f n ∷ []
unfolding tab
tab_snoc zero f = refl
tab_snoc (suc n) f = ap (λ xs. f 0 ∷ xs) (tab_snoc n (λ i. f (suc i)))

pub firsts_tab : {A : Type 0} (n : ℕ) (f : ℕ → A) → firsts n f ≡ tab n f
unfolding firsts tab
firsts_tab zero f = refl
firsts_tab (suc n) f = ap (λ xs. xs ++ f n ∷ []) (firsts_tab n f) ∙ sym (tab_snoc n f)

pub get_d_firsts : {A : Type 0} (n : ℕ) (f : ℕ → A) (d : A) (i : ℕ) → i < n → get_or (firsts n f) i d ≡ f i
get_d_firsts n f d i l = ap (λ xs. get_or xs i d) (firsts_tab n f) ∙ get_d_tab n f d i l

-- ---- one event more

-- The set flags of a device: one more if the event's flag is set and it is the device's.
module _ (o : ℕ) where
  flags_snoc : (os : List ℕ) (fs : List Bool) (x : ℕ) (f : Bool) → length os ≡ length fs
      → device_flags o (os ++ x ∷ []) (fs ++ f ∷ []) ≡ device_flags o os fs + cond (f && eqb x o) 1 0
  flags_snoc [] [] x f e = omega arith
  flags_snoc [] (g ∷ fs) x f e = absurd (omega arith)
  flags_snoc (y ∷ os) [] x f e = absurd (omega arith)
  flags_snoc (y ∷ os) (g ∷ fs) x f e = omega (arith, flags_snoc os fs x f (omega arith))

  flags_firsts : (i : ℕ) (g : ℕ → ℕ) (f : ℕ → Bool)
      → device_flags o (firsts (i + 1) g) (firsts (i + 1) f) ≡ device_flags o (firsts i g) (firsts i f) + cond (f i && eqb (g i) o) 1 0
  flags_firsts i g f =
      ap₂ (device_flags o) (firsts_more i g) (firsts_more i f)
      ∙ flags_snoc (firsts i g) (firsts i f) (g i) (f i) (length_firsts i g ∙ sym (length_firsts i f))

-- They are no more than the events.
pub flags_few : (o : ℕ) (os : List ℕ) (fs : List Bool) → device_flags o os fs ≤ length os
flags_few o [] fs = omega arith
flags_few o (x ∷ os) [] = omega arith
flags_few o (x ∷ os) (f ∷ fs) = omega (arith, flags_few o os fs, one_most (f && eqb x o))

pub counts_few : (o : ℕ) (os : List ℕ) (fs : List Bool) → get_or (flag_counts os fs) o 0 ≤ length os
counts_few o os fs =
    ⊎_elim
    (λ (l : o < 5). omega (arith, get_d_tab 5 (λ x. device_flags x os fs) 0 o l, flags_few o os fs))
    (λ (l : 5 ≤ o). omega (arith, get_d_past (flag_counts os fs) 0 o (rw (length_tab 5 (λ x. device_flags x os fs)) l)))
    (below_or_not o 5)

-- The set flags of all devices: one more for the event's owner, if the event's flag is set.
module _ (i : ℕ) (g : ℕ → ℕ) (f : ℕ → Bool) where
  abbrev Counts : ℕ → List ℕ
  Counts j = flag_counts (firsts j g) (firsts j f)

  counts_same : ((o : ℕ) → o < 5 → (f i && eqb (g i) o) ≡ false) → Counts (i + 1) ≡ Counts i
  counts_same h = tab_cong 5 _ _ (λ o l. flags_firsts o i g f ∙ rw (h o l) (omega arith))

  counts_set : f i ≡ true → g i < 5 → Counts (i + 1) ≡ raise (Counts i) (g i)
  counts_set e l =
      tab_set 5 (λ o. device_flags o (firsts i g) (firsts i f)) _ (g i) _ l
      (flags_firsts (g i) i g f ∙ rw (e, eq-eqb (g i) (g i) refl, get_d_tab 5 (λ o. device_flags o (firsts i g) (firsts i f)) 0 (g i) l) (omega arith))
      (λ o n. flags_firsts o i g f ∙ rw (e, ne_eqb (g i) o (λ q. n (sym q))) (omega arith))

  pub counts_next : Counts (i + 1) ≡ cond (f i && ltb (g i) 5) (raise (Counts i) (g i)) (Counts i)
  counts_next = by (f i) refl
    where
      by : (b : Bool) → f i ≡ b → Counts (i + 1) ≡ cond (f i && ltb (g i) 5) (raise (Counts i) (g i)) (Counts i)
      by false e = counts_same (λ o l. rw e) ∙ rw e
      by true e =
          ⊎_elim
          (λ (l : g i < 5). counts_set e l ∙ rw (e, lt-ltb (g i) 5 l))
          (λ (l : 5 ≤ g i). counts_same (λ o m. rw (ne_eqb (g i) o (λ q. omega (arith, q))) (and-false (f i))) ∙ rw (e, le-ltb (g i) 5 l))
          (below_or_not (g i) 5)
