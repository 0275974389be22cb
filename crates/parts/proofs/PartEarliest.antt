-- The laws of what specs/PartEarliest defines.
use Rattle.std.specs.Prelude.{◌≡◌, refl, Bool, true, false, cond, List, T, ltb, pos, negsuc, length}
use Rattle.std.proofs.Math.Path.{sym}
use Rattle.std.proofs.Common.{ap, ◌∙◌, arith, lt→ltb}
use Prim.Native.Nat.{ℕ, zero, suc, ◌-◌, ◌≤◌}
use Rattle.std.proofs.Math.IntN.{sub_ℕ}
use Rattle.temporal.proofs.Lists.{length_tab, get_d_tab, All-tab}
use Rattle.temporal.specs.Bound.{AtMost, above, below}
use Rattle.temporal.proofs.Bound.{signed}
use Rattle.temporal.specs.Ticket.{Rule, Ticket, time, Schedule}
use Rattle.temporal.specs.Distance.{consistent, distance}
use Rattle.temporal.proofs.Distance.{distance_attained, distance_most}
use Rattle.temporal.proofs.DistanceLaws.{inside, distance_self}
use Rattle.parts.specs.Part.{members, point, part_ticket}
use Rattle.parts.proofs.PartDistance.{part_events, distances_all}
use Rattle.parts.specs.PartEarliest.{earliest, earliest_times}

-- ---- minus a number

minus_by : (n : ℕ) (t : Bool) → T t
    → (above (cond t (negsuc (suc n - suc 0)) (pos (0 - suc n))) ≡ 0) × (below (cond t (negsuc (suc n - suc 0)) (pos (0 - suc n))) ≡ suc n)
unfolding above below
minus_by n true t = (refl, omega arith)
minus_by n false t = absurd t

pub minus_is : (n : ℕ) → (above (sub_ℕ 0 n) ≡ 0) × (below (sub_ℕ 0 n) ≡ n)
unfolding above below
minus_is zero = (refl, refl)
minus_is (suc n) = minus_by n (ltb 0 (suc n)) (lt→ltb 0 (suc n) (omega arith))

module _ (k : Ticket) (some : T (consistent k)) where
  -- a schedule has the point there, and the distance has no part above 0
  attained : (p : ℕ) → (ts : List ℕ) × Schedule k ts × (time ts p ≡ earliest k p) × (above (distance k p 0) ≡ 0)
  attained p =
      let w = distance_attained k p 0 some in
      let m = minus_is (time w.0 p) in
      (w.0, w.1, sym m.1 ∙ ap below w.2, sym (ap above w.2) ∙ m.0)

  pub earliest_above : (p : ℕ) → above (distance k p 0) ≡ 0
  earliest_above p = (attained p).3

  -- and none has it sooner
  earliest_least : (p : ℕ) (us : List ℕ) → Schedule k us → earliest k p ≤ time us p
  earliest_least p us s = omega (arith, (signed (time us p) 0 (distance k p 0)).0 (distance_most k p 0 us s), (attained p).3)

  pub earliest_inside : (p : ℕ) → earliest k p ≤ k.horizon
  earliest_inside p = let w = attained p in omega (arith, inside k w.0 w.1 p, w.2)

  earliest_rule : (p q : ℕ) → AtMost (earliest k p) (earliest k q) (distance k p q)
  earliest_rule p q =
      let w = attained p in
      (signed (earliest k p) (earliest k q) (distance k p q)).1
      (omega (arith, w.2, earliest_least q w.0 w.1, (signed (time w.0 p) (time w.0 q) (distance k p q)).0 (distance_most k p q w.0 w.1)))

  module _ (d : ℕ) where
    pub time_earliest : (q : ℕ) → q ≤ length (members d k) → time (earliest_times d k) q ≡ earliest k (point d k q)
    unfolding below
    time_earliest zero l = sym (ap below (distance_self k 0 some))
    time_earliest (suc i) l = get_d_tab (length (members d k)) (λ j. earliest k (point d k (suc j))) 0 i l

    pub part_earliest : Schedule (part_ticket d k) (earliest_times d k)
    part_earliest = record {
      count = length_tab (length (members d k)) (λ i. earliest k (point d k (suc i))) ∙ sym (part_events d k);
      inside = All-tab (λ t. t ≤ k.horizon) (length (members d k)) (λ i. earliest k (point d k (suc i))) (λ i l. earliest_inside (point d k (suc i)));
      obeys = distances_all d k (λ (r : Rule). AtMost (time (earliest_times d k) r.from) (time (earliest_times d k) r.to) r.bound)
          (λ i j li lj n. rw (time_earliest i li, time_earliest j lj) (earliest_rule (point d k i) (point d k j)));
    }
