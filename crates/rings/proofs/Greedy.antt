-- The laws of what specs/Greedy defines.
use Rattle.std.specs.Prelude.{◌≡◌, refl, not, ◌&&◌, ◌↔◌, ltb, eqb, length}
use Rattle.std.proofs.Math.Path.{sym, ap}
use Rattle.std.proofs.Common.{◌∙◌, subst, inl, inr, arith, T_not, ltb→lt, lt→ltb, eqb→eq}
use mathlib.Core.List.{List, [], ◌∷◌}
use Rattle.std.proofs.Math.Logic.{⊎_elim}
use Prim.Native.Nat.{ℕ, zero, suc, ◌+◌, ◌*◌, ◌≤◌, ◌<◌}
use Rattle.std.proofs.Math.Decide.{ℕ_discrete}
use Rattle.std.proofs.Math.Dec.{T}
use Rattle.temporal.specs.Lists.{All}
use Rattle.temporal.proofs.Lists.{T-pair, pair-T, by_test, below_or_not}
use Rattle.temporal.specs.Ticket.{Ticket, events}
use Rattle.temporal.specs.Distance.{some?, consistent}
use Rattle.temporal.specs.DistanceLaws.{Points}
use Rattle.temporal.specs.Run.{Valid}
use Rattle.rings.specs.Order.{seek, First, any_upto, Before}
use Rattle.rings.proofs.Order.{seek_first, seek_is, seek_same, any_has, has_any}
use Rattle.paths.specs.Rules.{size, from_of, to_of, Number, Walk}
use Rattle.paths.proofs.Walks.{rule_points, valid_points}
use Rattle.rings.specs.Ring.{start_of, Ring, rings, fewest, ring}
use Rattle.rings.proofs.Ring.{rings_has, eqb_eq}
use Rattle.rings.specs.Printed.{Printed}
use Rattle.rings.proofs.Printed.{some-∈, ∈-some, fewest_none, ring_none, fewest_first, fewest_least, ring_count, ring_printed, printed_ring, first_lowest, ring_valid}
use Rattle.rings.specs.Costs.{top, cost, costs, walks}
use Rattle.rings.proofs.Costs.{via_attained, walks_there, walks_more, walks_least, ring_costs, costs_ring, walks_ring}
use Rattle.rings.specs.Greedy.{continues, found, greedy, rest, shortest, starts, through}

-- ---- the tests without Booleans, and one step

pub through_iff : (k : Ticket) (r q : ℕ) → T (through k r q) ↔ (walks k q r q < r * 1000000)
unfolding through
through_iff k r q = (ltb→lt (walks k q r q) (r * 1000000), lt→ltb (walks k q r q) (r * 1000000))

pub starts_iff : (k : Ticket) (r e : ℕ) → T (starts k r e) ↔ (cost k e + walks k (from_of k e) r (to_of k e) < suc r * 1000000)
unfolding starts
starts_iff k r e =
    let c : ℕ = cost k e + walks k (from_of k e) r (to_of k e) in
    (ltb→lt c (suc r * 1000000), lt→ltb c (suc r * 1000000))

-- where a ring goes through a point, a rule can start one
pub starts_some : (k : Ticket) (r q : ℕ) → r ≤ 40 → walks k q (suc r) q < suc r * 1000000 → First (starts k r) 1 (size k) (seek (starts k r) 1 (size k))
unfolding top
starts_some k r q l h =
    let a = via_attained k (walks k q r) q (size k) (omega (arith, walks_more k q r q)) in
    let w : walks k (from_of k a.0) r (to_of k a.0) ≡ walks k q r (to_of k a.0) = ap (λ x. walks k x r (to_of k a.0)) a.3 in
    seek_first (starts k r) 1 (size k) a.0 a.1 (omega (arith, a.2)) ((starts_iff k r a.0).1 (omega (arith, a.4, w, walks_more k q r q)))

pub greedy_more : (k : Ticket) (r e : ℕ) → First (starts k r) 1 (size k) e → greedy k (suc r) ≡ e ∷ rest k (from_of k e) (suc r * 1000000) (cost k e) (to_of k e) r
unfolding greedy
greedy_more k r e f = ap (λ x. x ∷ rest k (from_of k x) (suc r * 1000000) (cost k x) (to_of k x) r) (seek_is (starts k r) 1 (size k) e f)

module _ (k : Ticket) (q limit : ℕ) where
  pub continues_iff : (s p r e : ℕ) → T (continues k q limit s p r e) ↔ ((p ≡ from_of k e) × (s + cost k e + walks k q r (to_of k e) < limit))
  unfolding continues
  continues_iff s p r e = (there, back')
    where
      c : ℕ
      c = s + cost k e + walks k q r (to_of k e)

      there : T (eqb (from_of k e) p && ltb c limit) → (p ≡ from_of k e) × (c < limit)
      there t =
          let h = T-pair (eqb (from_of k e) p) (ltb c limit) t in
          (sym (eqb→eq (from_of k e) p h.0), ltb→lt c limit h.1)

      back' : (p ≡ from_of k e) × (c < limit) → T (eqb (from_of k e) p && ltb c limit)
      back' h = pair-T (eqb (from_of k e) p) (ltb c limit) (eqb_eq (from_of k e) p (sym h.0)) (lt→ltb c limit h.1)

  pub rest_more : (s p r e : ℕ) → First (continues k q limit s p r) 1 (size k) e → rest k q limit s p (suc r) ≡ e ∷ rest k q limit (s + cost k e) (to_of k e) r
  unfolding rest
  rest_more s p r e f = ap (λ x. x ∷ rest k q limit (s + cost k x) (to_of k x) r) (seek_is (continues k q limit s p r) 1 (size k) e f)

  -- while the least cost of the rules that are left stays below the limit, a rule can be continued
  pub continues_some : limit ≤ top → (s p r : ℕ) → s + walks k q (suc r) p < limit
      → First (continues k q limit s p r) 1 (size k) (seek (continues k q limit s p r) 1 (size k))
  continues_some high s p r h =
      let a = via_attained k (walks k q r) p (size k) (omega (arith, walks_more k q r p)) in
      seek_first (continues k q limit s p r) 1 (size k) a.0 a.1 (omega (arith, a.2))
      ((continues_iff s p r a.0).1 (sym a.3, omega (arith, a.4, walks_more k q r p)))

-- ---- the rules that are left: of the walks that stay below the limit, the first in dictionary order

record Rest (k : Ticket) (q limit s p r : ℕ) (es : List ℕ) : Type 0 where
  numbers : All (Number k) es
  walk : Walk k p es q
  count : length es ≡ r
  limited : s + costs k es < limit
  first : (fs : List ℕ) → All (Number k) fs → Walk k p fs q → length fs ≡ r → s + costs k fs < limit → Before es fs

module _ (k : Ticket) (q limit : ℕ) (high : limit ≤ top) where
  rest_is : (r s p : ℕ) → s + walks k q r p < limit → Rest k q limit s p r (rest k q limit s p r)
  unfolding rest costs
  rest_is zero s p h = by (ℕ_discrete p q)
    where
      by : Dec (p ≡ q) → Rest k q limit s p 0 []
      by (yes e) = record { numbers = tt; walk = e; count = refl; limited = omega arith; first = λ fs n w c l. tt }
      by (no n) = absurd (omega (arith, walks_there k q p n))
  rest_is (suc r) s p h = step ((continues_iff k q limit s p r e).0 f.passes) (λ t x g. rest_is r t x g)
    where
      e : ℕ
      e = seek (continues k q limit s p r) 1 (size k)

      f : First (continues k q limit s p r) 1 (size k) e
      f = continues_some k q limit high s p r h

      es : List ℕ
      es = rest k q limit (s + cost k e) (to_of k e) r

      after : Rest k q limit (s + cost k e) (to_of k e) r es → (fs : List ℕ) → All (Number k) fs → Walk k p fs q → length fs ≡ suc r → s + costs k fs < limit
          → Before (e ∷ es) fs
      after z [] n w c l = absurd (omega arith)
      after z (x ∷ fs) n w c l =
          let same : length fs ≡ r = omega arith in
          let least = walks_least k q r fs (to_of k x) n.1 w.1 same in
          let low : e ≤ x = f.least x n.0.0 ((continues_iff k q limit s p r x).1 (w.0, omega (arith, least))) in
          ⊎_elim (λ (d : e < x). inl d)
          (λ (d : x ≤ e).
          let t : e ≡ x = omega arith in
          inr (t, z.first fs n.1 (subst (λ y. Walk k (to_of k y) fs q) (sym t) w.1) same (omega (arith, ap (cost k) t))))
          (below_or_not e x)

      step : (p ≡ from_of k e) × (s + cost k e + walks k q r (to_of k e) < limit)
          → ((t x : ℕ) → t + walks k q r x < limit → Rest k q limit t x r (rest k q limit t x r)) → Rest k q limit s p (suc r) (e ∷ es)
      step t g =
          let z = g (s + cost k e) (to_of k e) t.1 in
          record {
            numbers = ((f.above, omega (arith, f.below)), z.numbers);
            walk = (t.0, z.walk);
            count = ap suc z.count;
            limited = omega (arith, z.limited);
            first = after z;
          }

-- ---- the whole ring

module _ (k : Ticket) (v : Valid k) where
  -- of the rings of r + 1 rules, the first in dictionary order
  record Whole (r : ℕ) (es : List ℕ) : Type 0 where
    a_ring : Ring k es
    count : length es ≡ suc r
    first : (fs : List ℕ) → Ring k fs → length fs ≡ suc r → Before es fs

  whole : (r : ℕ) → r ≤ 40 → (es : List ℕ) → Ring k es → length es ≡ suc r → Whole r (greedy k (suc r))
  unfolding greedy costs top
  whole r l [] ring₀ c = absurd (omega arith)
  whole r l (x₀ ∷ es₀) ring₀ c₀ = record { a_ring = a_ring; count = ap suc z.count; first = after }
    where
      limit : ℕ
      limit = suc r * 1000000

      passing : (x : ℕ) (fs : List ℕ) → Ring k (x ∷ fs) → length (x ∷ fs) ≡ suc r → T (starts k r x)
      passing x fs g c =
          let same : length fs ≡ r = omega arith in
          let least = walks_least k (from_of k x) r fs (to_of k x) g.numbers.1 g.closed.1 same in
          (starts_iff k r x).1 (omega (arith, least, ring_costs k v (x ∷ fs) g))

      e : ℕ
      e = seek (starts k r) 1 (size k)

      es : List ℕ
      es = rest k (from_of k e) limit (cost k e) (to_of k e) r

      g : First (starts k r) 1 (size k) e
      g = seek_first (starts k r) 1 (size k) x₀ ring₀.numbers.0.0 (omega (arith, ring₀.numbers.0.1)) (passing x₀ es₀ ring₀ c₀)

      z : Rest k (from_of k e) limit (cost k e) (to_of k e) r es
      z = rest_is k (from_of k e) limit (omega arith) r (cost k e) (to_of k e) ((starts_iff k r e).0 g.passes)

      a_ring : Ring k (e ∷ es)
      a_ring = costs_ring k v (from_of k e) (e ∷ es) (omega arith) ((g.above, omega (arith, g.below)), z.numbers) (refl, z.walk)
          (omega (arith, z.limited, z.count))

      after : (fs : List ℕ) → Ring k fs → length fs ≡ suc r → Before (e ∷ es) fs
      after [] h c = absurd (omega arith)
      after (x ∷ fs) h c =
          let low : e ≤ x = g.least x h.numbers.0.0 (passing x fs h c) in
          ⊎_elim (λ (d : e < x). inl d)
          (λ (d : x ≤ e).
          let t : e ≡ x = omega arith in
          let w : Walk k (to_of k e) fs (from_of k e) = subst (λ y. Walk k (to_of k y) fs (from_of k y)) (sym t) h.closed.1 in
          inr (t, z.first fs h.numbers.1 w (omega arith) (omega (arith, ap (cost k) t, ring_costs k v (x ∷ fs) h))))
          (below_or_not e x)

  -- the ring that is printed is found rule by rule
  pub ring_greedy : ¬ T (consistent k) → greedy k (fewest k) ≡ ring k
  ring_greedy n = go (fewest k) refl
    where
      ps : Points k
      ps = valid_points k v

      p : Printed k (ring k)
      p = ring_printed k ps n

      go : (c : ℕ) → fewest k ≡ c → greedy k c ≡ ring k
      go zero e = absurd (omega (arith, e, (fewest_first k ps n).above))
      go (suc r) e =
          let same : length (ring k) ≡ suc r = ring_count k ps n ∙ e in
          let w = whole r (omega (arith, ring_valid k v n)) (ring k) p.a_ring same in
          let gs : List ℕ = greedy k (suc r) in
          printed_ring k ps n gs (record {
            a_ring = w.a_ring;
            shortest = λ fs h. omega (arith, w.count, e, fewest_least k ps n fs h);
            lowest = first_lowest k gs w.a_ring (λ fs h c. w.first fs h (c ∙ w.count));
            first = λ fs h c l. w.first fs h (c ∙ w.count);
          })

  start_point : (es : List ℕ) → start_of k es ≤ events k
  start_point [] = omega arith
  start_point (e ∷ es) = (rule_points k (valid_points k v) e).0

  -- the fewest rules are found from the least costs
  pub shortest_fewest : shortest k ≡ fewest k
  unfolding shortest fewest
  shortest_fewest = seek_same (λ r. any_upto (through k r) (events k)) (λ r. some? (rings k r)) 1 (suc (events k))
      (λ r a b. (there r a (omega (arith, v.events_limit)), back' r a (omega (arith, v.events_limit))))
    where
      there : (r : ℕ) → 1 ≤ r → r ≤ 41 → T (any_upto (through k r) (events k)) → T (some? (rings k r))
      there r a b t =
          let q = any_has (through k r) (events k) t in
          let e = (walks_ring k v q.0 r a b).0 ((through_iff k r q.0).0 q.2) in
          ∈-some (rings k r) ((rings_has k r e.0).1 (e.1, e.2))

      back' : (r : ℕ) → 1 ≤ r → r ≤ 41 → T (some? (rings k r)) → T (any_upto (through k r) (events k))
      back' r a b t =
          let m = some-∈ (rings k r) t in
          let e = (rings_has k r m.0).0 m.1 in
          let q : ℕ = start_of k m.0 in
          has_any (through k r) (events k) q (start_point m.0) ((through_iff k r q).1 ((walks_ring k v q r a b).1 (m.0, e.0, e.1, refl)))

  -- for every valid ticket, with a schedule or without
  pub ring_found : found k ≡ ring k
  unfolding found greedy
  ring_found = ⊎_elim
      (λ (t : T (consistent k)). ap (greedy k) (shortest_fewest ∙ fewest_none k t) ∙ sym (ring_none k t))
      (λ (t : T (not (consistent k))). ap (greedy k) shortest_fewest ∙ ring_greedy (T_not (consistent k) t))
      (by_test (consistent k))
