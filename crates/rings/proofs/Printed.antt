-- The laws of what specs/Printed defines.
use Rattle.std.specs.Prelude.{◌≡◌, refl, not, List, [], ◌∷◌, ◌++◌, ◌↔◌, ◌⊎◌, ℕ, suc, ◌≤◌, ◌<◌, T, length}
use Rattle.std.proofs.Common.{sym, ap, ◌∙◌, inl, inr, ⊎_elim, arith, T_not}
use mathlib.Core.List.Memᴰ
use Rattle.temporal.specs.Lists.{All, ◌∈◌, keep}
use Rattle.temporal.proofs.Lists.{All-map, All-∈, keep-∈, ∈-keep, by_test}
use Rattle.temporal.specs.Ticket.{Ticket, events}
use Rattle.temporal.specs.Distance.{some?, consistent}
use Rattle.temporal.proofs.Distance.{consistent_has}
use Rattle.temporal.specs.DistanceLaws.{Points}
use Rattle.temporal.specs.Run.{Valid}
use Rattle.rings.specs.Order.{First, Before, first_of}
use Rattle.rings.proofs.Order.{seek_first, seek_none, before_antisym, first_of_first}
use Rattle.rings.specs.Turns.{Lowest, is_lowest, Turn}
use Rattle.rings.proofs.Turns.{test_lowest, lowest_test, cut, turn_length, lowest_turn, lowest_once}
use Rattle.paths.specs.Rules.{size}
use Rattle.paths.proofs.Walks.{valid_points}
use Rattle.paths.specs.Repeats.{Differ}
use Rattle.paths.specs.Shortest.{points}
use Rattle.rings.specs.Ring.{Ring, rings, fewest, ring}
use Rattle.rings.proofs.Ring.{rings_has}
use Rattle.rings.proofs.Loops.{ring_turn}
use Rattle.rings.proofs.Shorten.{shortest_points, shortest_rules}
use Rattle.rings.proofs.Schedules.{ring_refutes, ring_iff}
use Rattle.rings.specs.Printed.{Printed}

-- it determines the ring
pub printed_unique : (k : Ticket) (es fs : List ℕ) → Printed k es → Printed k fs → es ≡ fs
printed_unique k es fs p q =
    let same : length es ≡ length fs = omega (arith, p.shortest fs q.a_ring, q.shortest es p.a_ring) in
    before_antisym es fs (p.first fs q.a_ring (sym same) q.lowest) (q.first es p.a_ring same p.lowest)

-- ---- a list that has an element

pub some-∈ : {A : Type 0} (xs : List A) → T (some? xs) → (x : A) × (x ∈ xs)
some-∈ [] h = absurd h
some-∈ (x ∷ xs) h = (x, Memᴰ.head refl)

pub ∈-some : {A : Type 0} (xs : List A) {x : A} → x ∈ xs → T (some? xs)
∈-some [] m = absurd (Memᴰ.not-nil m)
∈-some (x ∷ xs) m = tt

none_nil : {A : Type 0} (xs : List A) → ((x : A) → ¬ (x ∈ xs)) → xs ≡ []
none_nil [] n = refl
none_nil (x ∷ xs) n = absurd (n x (Memᴰ.head refl))

-- ---- a ticket without a schedule

has_ring : (k : Ticket) (es : List ℕ) → Ring k es → T (some? (rings k (length es)))
has_ring k es r = ∈-some (rings k (length es)) ((rings_has k (length es) es).1 (r, refl))

module _ (k : Ticket) (ps : Points k) (n : ¬ T (consistent k)) where
  -- the fewest rules are those of some ring, and no ring has fewer
  pub fewest_first : First (λ count. some? (rings k count)) 1 (suc (events k)) (fewest k)
  unfolding fewest
  fewest_first =
      let r = (ring_iff k ps).0 n in
      seek_first (λ count. some? (rings k count)) 1 (suc (events k)) (length r.0) r.1.some (omega (arith, r.2)) (has_ring k r.0 r.1)

  pub fewest_least : (es : List ℕ) → Ring k es → fewest k ≤ length es
  fewest_least es r = fewest_first.least (length es) r.some (has_ring k es r)

  listed : (fs : List ℕ) → Ring k fs → length fs ≡ fewest k → Lowest fs → fs ∈ keep is_lowest (rings k (fewest k))
  listed fs r e l = ∈-keep is_lowest (rings k (fewest k)) ((rings_has k (fewest k) fs).1 (r, e)) (lowest_test fs l)

  candidate : (fs : List ℕ) × (fs ∈ keep is_lowest (rings k (fewest k)))
  candidate =
      let m = some-∈ (rings k (fewest k)) fewest_first.passes in
      let r = (rings_has k (fewest k) m.0).0 m.1 in
      let t = lowest_turn m.0 in
      (t.0, listed t.0 (ring_turn k m.0 t.0 t.1 r.0) (turn_length m.0 t.0 t.1 ∙ r.1) t.2)

  chosen : (ring k ∈ keep is_lowest (rings k (fewest k))) × All (Before (ring k)) (keep is_lowest (rings k (fewest k)))
  unfolding ring
  chosen = first_of_first (keep is_lowest (rings k (fewest k))) candidate.1

  kept : (ring k ∈ rings k (fewest k)) × T (is_lowest (ring k))
  kept = keep-∈ is_lowest (rings k (fewest k)) chosen.0

  pub ring_count : length (ring k) ≡ fewest k
  ring_count = ((rings_has k (fewest k) (ring k)).0 kept.0).1

  pub ring_printed : Printed k (ring k)
  ring_printed = record {
    a_ring = ((rings_has k (fewest k) (ring k)).0 kept.0).0;
    shortest = λ fs r. omega (arith, ring_count, fewest_least fs r);
    lowest = test_lowest (ring k) kept.1;
    first = λ fs r e l. All-∈ (Before (ring k)) (keep is_lowest (rings k (fewest k))) chosen.1 (listed fs r (e ∙ ring_count) l);
  }

  pub printed_ring : (es : List ℕ) → Printed k es → es ≡ ring k
  printed_ring es p = printed_unique k es (ring k) p ring_printed

  -- it meets no point twice
  pub ring_points : Differ (points k (ring k))
  ring_points = shortest_points k (ring k) ring_printed.a_ring ring_printed.shortest

  -- and has no rule twice
  pub ring_differ : Differ (ring k)
  ring_differ = shortest_rules k (ring k) ring_printed.a_ring ring_printed.shortest

  pub ring_length : length (ring k) ≤ suc (events k)
  ring_length = omega (arith, ring_count, fewest_first.below)

-- ---- where there is a schedule, nothing

pub fewest_none : (k : Ticket) → T (consistent k) → fewest k ≡ 0
unfolding fewest
fewest_none k t =
    let s = (consistent_has k).0 t in
    seek_none (λ count. some? (rings k count)) 1 (suc (events k)) (λ count l g h.
    let m = some-∈ (rings k count) h in
    ring_refutes k m.0 ((rings_has k count m.0).0 m.1).0 s.0 s.1)

pub ring_none : (k : Ticket) → T (consistent k) → ring k ≡ []
unfolding ring first_of
ring_none k t =
    let s = (consistent_has k).0 t in
    ap first_of (none_nil (keep is_lowest (rings k (fewest k))) (λ es m.
    ring_refutes k es ((rings_has k (fewest k) es).0 (keep-∈ is_lowest (rings k (fewest k)) m).0).0 s.0 s.1))

-- and only there
pub fewest_zero : (k : Ticket) → Points k → (fewest k ≡ 0) ↔ T (consistent k)
fewest_zero k ps = (λ e. there e (by_test (consistent k)), fewest_none k)
  where
    there : fewest k ≡ 0 → T (consistent k) ⊎ T (not (consistent k)) → T (consistent k)
    there e (inl t) = t
    there e (inr t) = absurd (omega (arith, e, (fewest_first k ps (T_not (consistent k) t)).above))

-- ---- started at the lowest

-- a ring with the fewest rules can be started at its lowest number, and in one way only
pub started_once : (k : Ticket) (es : List ℕ) → Ring k es → ((fs : List ℕ) → Ring k fs → length es ≤ length fs)
    → (fs : List ℕ) × Turn es fs × Ring k fs × Lowest fs × ((gs : List ℕ) → Turn es gs → Lowest gs → gs ≡ fs)
started_once k es r least =
    let t = lowest_turn es in
    (t.0, t.1, ring_turn k es t.0 t.1 r, t.2, λ gs u l. lowest_once es gs t.0 (shortest_rules k es r least) u l t.1 t.2)

-- a ring that comes before every ring of as many rules starts at its lowest number
pub first_lowest : (k : Ticket) (es : List ℕ) → Ring k es → ((fs : List ℕ) → Ring k fs → length fs ≡ length es → Before es fs) → Lowest es
first_lowest k [] r f = tt
first_lowest k (e ∷ es) r f =
    let c = cut e es in
    let fs : List ℕ = (c.1 ∷ c.2) ++ c.0 in
    let turn : Turn (e ∷ es) fs = (c.0, c.1 ∷ c.2, c.3, refl) in
    let b : Before (e ∷ es) fs = f fs (ring_turn k (e ∷ es) fs turn r) (turn_length (e ∷ es) fs turn) in
    let low : e ≤ c.1 = ⊎_elim (λ (l : e < c.1). omega arith) (λ (q : (e ≡ c.1) × Before es (c.2 ++ c.0)). omega (arith, q.0)) b in
    All-map (λ x (h : c.1 ≤ x). omega (arith, low)) es c.4.1

-- ---- of a valid ticket

-- at most 41 rules
pub ring_valid : (k : Ticket) → Valid k → ¬ T (consistent k) → length (ring k) ≤ 41
ring_valid k v n = omega (arith, ring_length k (valid_points k v) n, v.events_limit)

-- and numbers of at most three digits
pub size_valid : (k : Ticket) → Valid k → size k ≤ 336
size_valid k v = omega (arith, v.rules_limit, v.events_limit)
