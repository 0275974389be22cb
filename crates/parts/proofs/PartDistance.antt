-- The part keeps all distances: a schedule of the ticket, at the device's events alone, is a schedule of the part (`part_schedule`), so the
-- part of a ticket with a schedule has one, and its distances are the ticket's (`part_distance`).
use Rattle.std.specs.Prelude.{◌≡◌, refl, List, map, ◌≢◌, ℕ, zero, suc, ◌≤◌, T, length}
use Rattle.std.proofs.Common.{sym, ap₂, subst, ◌∙◌}
use Rattle.std.proofs.Math.Decide.{ℕ_discrete}
use Rattle.std.proofs.Math.IntN.{sub_ℕ}
use Rattle.std.proofs.lemmas.List.{length-map}
use Rattle.std.proofs.Math.ListN.{get_or-map}
use Rattle.temporal.specs.Lists.{All}
use Rattle.temporal.proofs.Lists.{at-All}
use Rattle.temporal.specs.Bound.{AtMost}
use Rattle.temporal.specs.Ticket.{Rule, Ticket, events, Distinct, time, Schedule}
use Rattle.temporal.specs.Distance.{consistent, distance}
use Rattle.temporal.proofs.Distance.{consistent_has, distance_attained, distance_most, distance_is}
use Rattle.temporal.proofs.DistanceLaws.{inside, distance_self}
use Rattle.parts.specs.Part.{members, point, bounded_rule, distance_of, part_ticket}
use Rattle.parts.proofs.AllRules.{rules_all, rules_at_lem}

module _ (d : ℕ) (k : Ticket) where
  pub part_events : events (part_ticket d k) ≡ length (members d k)
  part_events = length-map (members d k) _

  -- ---- the part's rules: one from each of its points to each other, and nothing else

  pub distances_all : (P : Rule → Type 0)
      → ((i j : ℕ) → i ≤ length (members d k) → j ≤ length (members d k) → i ≢ j → P (bounded_rule (distance_of d k) i j)) → All P (part_ticket d k).rules
  distances_all P h = rules_all (length (members d k)) (distance_of d k) P h

  pub distances_at : (P : Rule → Type 0) → All P (part_ticket d k).rules → (i j : ℕ) → i ≤ length (members d k) → j ≤ length (members d k) → i ≢ j
      → P (bounded_rule (distance_of d k) i j)
  distances_at P h = rules_at_lem (length (members d k)) (distance_of d k) P h

  pub part_distinct : Distinct (part_ticket d k)
  part_distinct = distances_all (λ (r : Rule). r.from ≢ r.to) (λ i j li lj n. n)

  -- ---- a schedule at the device's events

  abbrev pub times : List ℕ → List ℕ
  times ts = map (time ts) (members d k)

  pub at_times : (ts : List ℕ) (q : ℕ) → time (times ts) q ≡ time ts (point d k q)
  at_times ts zero = refl
  at_times ts (suc j) = get_or-map (time ts) (members d k) j 0

  pub part_schedule : (ts : List ℕ) → Schedule k ts → Schedule (part_ticket d k) (times ts)
  part_schedule ts s = record {
    count = length-map (members d k) (time ts) ∙ sym part_events;
    inside = at-All (λ t. t ≤ k.horizon) 0 (times ts) (λ i. rw (at_times ts (suc i)) (inside k ts s (point d k (suc i))));
    obeys = distances_all (λ (r : Rule). AtMost (time (times ts) r.from) (time (times ts) r.to) r.bound)
        (λ i j li lj n. rw (at_times ts i, at_times ts j) (distance_most k (point d k i) (point d k j) ts s));
  }

  pub part_consistent : T (consistent k) → T (consistent (part_ticket d k))
  part_consistent t =
      let w = (consistent_has k).0 t in
      (consistent_has (part_ticket d k)).1 (times w.0, part_schedule w.0 w.1)

  -- ---- the distances

  pub part_distance : T (consistent k) → (i j : ℕ) → i ≤ length (members d k) → j ≤ length (members d k)
      → distance (part_ticket d k) i j ≡ distance k (point d k i) (point d k j)
  part_distance t i j li lj = by (ℕ_discrete i j)
    where
      by : Dec (i ≡ j) → distance (part_ticket d k) i j ≡ distance k (point d k i) (point d k j)
      by (yes e) = subst (λ x. distance (part_ticket d k) i x ≡ distance k (point d k i) (point d k x)) e
          (distance_self (part_ticket d k) i (part_consistent t) ∙ sym (distance_self k (point d k i) t))
      by (no n) =
          let w = distance_attained k (point d k i) (point d k j) t in
          distance_is (part_ticket d k) i j (distance k (point d k i) (point d k j)) (times w.0) (part_schedule w.0 w.1)
          (ap₂ sub_ℕ (at_times w.0 j) (at_times w.0 i) ∙ w.2)
          (λ us s. distances_at (λ (r : Rule). AtMost (time us r.from) (time us r.to) r.bound) s.obeys i j li lj n)
