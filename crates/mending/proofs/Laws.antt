-- The laws of what specs/Laws defines.
use Prim.Native.Nat.{ℕ, zero, suc, ◌+◌, ◌≤◌, ◌<◌}
use Rattle.std.specs.Prelude.{◌≡◌, refl, Bool, not, cond, ◌||◌, eqb, length, get_or, replicate}
use Rattle.std.proofs.Common.{sym, ap, subst, ◌∙◌, T_not}
use Rattle.std.proofs.Math.Bool.{true, false}
use mathlib.Core.List.{List, [], ◌∷◌, ◌++◌, append_assoc, append-nil}
use native.Mathlib.Omega.{arith}
use Rattle.std.proofs.Math.Dec.{T, eqb_refl}
use Rattle.std.proofs.lemmas.List.{length-replicate}
use Rattle.temporal.specs.Lists.{All, ◌∈◌}
use Rattle.temporal.proofs.Lists.{All-map, All-join, All-parts, All-∈, ∈-All}
use Rattle.temporal.specs.Ticket.{Rule, Ticket, events}
use Rattle.temporal.specs.Distance.{consistent}
use Rattle.temporal.proofs.Distance.{consistent_has}
use Rattle.temporal.specs.Run.{Valid}
use Rattle.paths.specs.Rules.{back, rule_at}
use Rattle.paths.proofs.Walks.{rule_written}
use Rattle.mending.specs.Selection.{with_rules, consistent_with, Selection, nothing, step, selected, kept_rules, mended, dropped}
use Rattle.mending.proofs.Steps.{by_step, select_keeps, fewer}
use Rattle.mending.proofs.Split.{selected_split, split_count, split_all, rising_all, split_rising, split_passing}
use Rattle.mending.specs.Split.{Rising, has, passing}
use Rattle.mending.specs.Laws.{HasSchedule, restored}

-- ---- the mended ticket has a schedule

zeros_inside : (n h : ℕ) → All (λ t. t ≤ h) (replicate n 0)
zeros_inside zero h = tt
zeros_inside (suc n) h = (omega arith, zeros_inside n h)

-- without rules there is one: all events at the start
pub no_rules_schedule : (k : Ticket) → HasSchedule (with_rules k [])
no_rules_schedule k = (replicate (events k) 0, record { count = length-replicate (events k) 0; inside = zeros_inside (events k) k.horizon; obeys = tt })

pub mended_schedule : (k : Ticket) → HasSchedule (mended k)
unfolding selected
mended_schedule k = (consistent_has (mended k)).0
    (select_keeps k (λ s i rules. T (consistent (with_rules k s.kept)))
    (λ s i r rules h. by_step k s i r (λ s'. T (consistent (with_rules k s'.kept))) (λ t. t) (λ t. h))
    nothing 1 k.rules ((consistent_has (with_rules k [])).1 (no_rules_schedule k))).1

-- ---- a ticket with a schedule is its own mended ticket

-- nothing dropped so far, and all rules kept
abbrev AllKept : Ticket → Selection → ℕ → List Rule → Type 0
AllKept k s i rules = (s.dropped ≡ []) × (s.kept ++ rules ≡ k.rules)

all_kept_step : (k : Ticket) → T (consistent k) → (s : Selection) (i : ℕ) (r : Rule) (rules : List Rule) → AllKept k s i (r ∷ rules)
    → AllKept k (step k s i r) (suc i) rules
all_kept_step k t s i r rules h = by_step k s i r (λ s'. AllKept k s' (suc i) rules)
    (λ y. (h.0, append_assoc s.kept (r ∷ []) rules ∙ h.1))
    (λ n. absurd (T_not (consistent_with k s.kept r) n (fewer k k.rules (s.kept ++ r ∷ []) less t)))
  where
    less : (P : Rule → Type 0) → All P k.rules → All P (s.kept ++ r ∷ [])
    less P a =
        let b = All-parts P s.kept (r ∷ rules) (subst (All P) (sym h.1) a) in
        All-join P s.kept (r ∷ []) b.0 (b.1.0, tt)

pub schedule_mended : (k : Ticket) → HasSchedule k → (mended k ≡ k) × (dropped k ≡ [])
unfolding selected
schedule_mended k p =
    let h = (select_keeps k (AllKept k) (all_kept_step k ((consistent_has k).1 p)) nothing 1 k.rules (refl, refl)).1 in
    (ap (with_rules k) (sym (append-nil _) ∙ h.1), h.0)

pub mended_twice : (k : Ticket) → (mended (mended k) ≡ mended k) × (dropped (mended k) ≡ [])
mended_twice k = schedule_mended (mended k) (mended_schedule k)

-- ---- kept and dropped

pub selected_count : (k : Ticket) → length (kept_rules k) + length (dropped k) ≡ length k.rules
selected_count k = split_count (selected_split k)

pub dropped_rising : (k : Ticket) → Rising 1 (length k.rules) (dropped k)
dropped_rising k = split_rising (length k.rules) (selected_split k) (omega arith)

-- the kept rules are those whose numbers are not in the list
pub kept_passing : (k : Ticket) → kept_rules k ≡ passing (λ j. not (has (dropped k) j)) 1 k.rules
kept_passing k = split_passing (selected_split k)

pub mended_valid : (k : Ticket) → Valid k → Valid (mended k)
mended_valid k v = record {
  horizon_limit = v.horizon_limit;
  events_limit = v.events_limit;
  owners_known = v.owners_known;
  rules_limit = omega (arith, v.rules_limit, selected_count k);
  rules_valid = split_all _ (selected_split k) v.rules_valid;
}

-- ---- a dropped rule put back

-- rule j cannot be kept with the rules kept so far
abbrev Lost : Ticket → Selection → ℕ → Type 0
Lost k s j = ¬ T (consistent_with k s.kept (rule_at k j))

-- so it is with each rule dropped so far, and the rules left have the numbers from i on
abbrev AllLost : Ticket → Selection → ℕ → List Rule → Type 0
AllLost k s i rules = All (Lost k s) s.dropped × ((n : ℕ) → n < length rules → rule_at k (i + n) ≡ get_or rules n (back 0))

lost_step : (k : Ticket) (s : Selection) (i : ℕ) (r : Rule) (rules : List Rule) → AllLost k s i (r ∷ rules) → AllLost k (step k s i r) (suc i) rules
lost_step k s i r rules h = by_step k s i r (λ s'. AllLost k s' (suc i) rules)
    (λ y. (All-map still s.dropped h.0, next))
    (λ n. (All-join (Lost k s) s.dropped (i ∷ []) h.0 (lost n, tt), next))
  where
    next : (n : ℕ) → n < length rules → rule_at k (suc i + n) ≡ get_or rules n (back 0)
    next n l =
        let e : suc i + n ≡ i + suc n = omega arith in
        ap (rule_at k) e ∙ h.1 (suc n) (omega arith)

    this : rule_at k i ≡ r
    this =
        let e : i ≡ i + 0 = omega arith in
        ap (rule_at k) e ∙ h.1 0 (omega arith)

    lost : T (not (consistent_with k s.kept r)) → Lost k s i
    lost n t = T_not (consistent_with k s.kept r) n (subst (λ r'. T (consistent_with k s.kept r')) this t)

    without : (j : ℕ) (P : Rule → Type 0) → All P ((s.kept ++ r ∷ []) ++ rule_at k j ∷ []) → All P (s.kept ++ rule_at k j ∷ [])
    without j P a =
        let b = All-parts P (s.kept ++ r ∷ []) (rule_at k j ∷ []) a in
        All-join P s.kept (rule_at k j ∷ []) (All-parts P s.kept (r ∷ []) b.0).0 b.1

    still : (j : ℕ) → Lost k s j → ¬ T (consistent_with k (s.kept ++ r ∷ []) (rule_at k j))
    still j n t = n (fewer k ((s.kept ++ r ∷ []) ++ rule_at k j ∷ []) (s.kept ++ rule_at k j ∷ []) (without j) t)

-- wherever it is put: rules among which are the kept ones and the dropped one have no schedule
pub put_back : (k : Ticket) (i : ℕ) → i ∈ dropped k → (rules : List Rule) → ((r : Rule) → r ∈ kept_rules k → r ∈ rules) → rule_at k i ∈ rules
    → ¬ HasSchedule (with_rules k rules)
unfolding selected
put_back k i m rules kept this p =
    All-∈ (Lost k (selected k)) (dropped k)
    (select_keeps k (AllLost k) (lost_step k) nothing 1 k.rules (tt, λ n l. let e : 1 + n ≡ suc n = omega arith in ap (rule_at k) e ∙ rule_written k n l)).1.0 m
    (fewer k rules (kept_rules k ++ rule_at k i ∷ []) more ((consistent_has (with_rules k rules)).1 p))
  where
    more : (P : Rule → Type 0) → All P rules → All P (kept_rules k ++ rule_at k i ∷ [])
    more P a = All-join P (kept_rules k) (rule_at k i ∷ []) (∈-All (kept_rules k) (λ r n. All-∈ P rules a (kept r n))) (All-∈ P rules a this, tt)

-- at the end
pub put_back_last : (k : Ticket) (i : ℕ) → i ∈ dropped k → ¬ HasSchedule (with_rules k (kept_rules k ++ rule_at k i ∷ []))
put_back_last k i m =
    let rules = kept_rules k ++ rule_at k i ∷ [] in
    let b = All-parts (λ r. r ∈ rules) (kept_rules k) (rule_at k i ∷ []) (∈-All rules (λ r n. n)) in
    put_back k i m rules (λ r n. All-∈ (λ r'. r' ∈ rules) (kept_rules k) b.0 n) b.1.0

or_left : (a b : Bool) → T a → T (a || b)
or_left true b t = tt
or_left false b t = absurd t

or_right : (a b : Bool) → T b → T (a || b)
or_right true b t = tt
or_right false b t = t

module _ (P : Rule → Type 0) (p q : ℕ → Bool) (less : (j : ℕ) → T (p j) → T (q j)) where
  passing_fewer : (i : ℕ) (rules : List Rule) → All P (passing q i rules) → All P (passing p i rules)
  unfolding passing
  passing_fewer i [] h = tt
  passing_fewer i (r ∷ rules) h = go (p i) (q i) (less i) (passing_fewer (suc i) rules) h
    where
      go : (a b : Bool) → (T a → T b) → (All P (passing q (suc i) rules) → All P (passing p (suc i) rules))
          → All P (cond b (r ∷ passing q (suc i) rules) (passing q (suc i) rules)) → All P (cond a (r ∷ passing p (suc i) rules) (passing p (suc i) rules))
      go true true f g a = (a.0, g a.1)
      go true false f g a = absurd (f tt)
      go false true f g a = g a.1
      go false false f g a = g a

module _ (P : Rule → Type 0) (q : ℕ → Bool) where
  passing_at : (i : ℕ) (rules : List Rule) (n : ℕ) → n < length rules → T (q (i + n)) → All P (passing q i rules) → P (get_or rules n (back 0))
  unfolding passing
  passing_at i [] n l t h = absurd (omega arith)
  passing_at i (r ∷ rules) zero l t h =
      let e : i + 0 ≡ i = omega arith in
      go (q i) (subst (λ j. T (q j)) e t) h
    where
      go : (b : Bool) → T b → All P (cond b (r ∷ passing q (suc i) rules) (passing q (suc i) rules)) → P r
      go true t a = a.0
      go false t a = absurd t
  passing_at i (r ∷ rules) (suc n) l t h =
      let e : i + suc n ≡ suc i + n = omega arith in
      passing_at (suc i) rules n (omega arith) (subst (λ j. T (q j)) e t) (go (q i) h)
    where
      go : (b : Bool) → All P (cond b (r ∷ passing q (suc i) rules) (passing q (suc i) rules)) → All P (passing q (suc i) rules)
      go true a = a.1
      go false a = a

pub put_back_place : (k : Ticket) (i : ℕ) → i ∈ dropped k → ¬ HasSchedule (with_rules k (restored k i))
put_back_place k i m = put_back k i m (restored k i) (λ r n. All-∈ Among (kept_rules k) kept n) (there i refl
    (All-∈ (λ x. (1 ≤ x) × (x ≤ length k.rules)) (dropped k) (rising_all 1 1 (length k.rules) (dropped k) (omega arith) (dropped_rising k)) m))
  where
    Among : Rule → Type 0
    Among r = r ∈ restored k i

    all : All Among (restored k i)
    all = ∈-All (restored k i) (λ r n. n)

    kept : All Among (kept_rules k)
    kept = subst (All Among) (sym (kept_passing k))
        (passing_fewer Among (λ j. not (has (dropped k) j)) (λ j. not (has (dropped k) j) || eqb j i) (λ j. or_left (not (has (dropped k) j)) (eqb j i)) 1 k.rules all)

    there : (j : ℕ) → j ≡ i → (1 ≤ j) × (j ≤ length k.rules) → Among (rule_at k j)
    there zero e l = absurd (omega (arith, l.0))
    there (suc n) e l =
        let s : suc n ≡ 1 + n = omega arith in
        subst Among (sym (rule_written k n (omega (arith, l.1))))
        (passing_at Among (λ x. not (has (dropped k) x) || eqb x i) 1 k.rules n (omega (arith, l.1))
        (or_right (not (has (dropped k) (1 + n))) (eqb (1 + n) i) (subst (λ x. T (eqb x i)) s (subst (λ x. T (eqb (suc n) x)) e (eqb_refl (suc n))))) all)
