-- The matrix of a ticket with a schedule holds its distances after all stops. Rests on closure's ShortestPaths and Answers, and on `schedule` for the test.
use Rattle.std.specs.Prelude.{ℕ, ◌+◌, ◌-◌, ◌≤◌, ◌≡◌, Bool, List, T, ℤ, pos, negsuc, ◌≤ℤ◌}
use Rattle.std.proofs.Common.{sym, ap, ◌∙◌, arith, lt-ltb, le-ltb, leb→le, le→leb}
use Rattle.std.proofs.Math.Dec.{not_T}
use Rattle.temporal.proofs.Lists.{T-true, T-false}
use Rattle.temporal.specs.Bound.{above, below}
use Rattle.temporal.proofs.Bound.{above_most}
use Rattle.temporal.specs.Ticket as temporal
use Rattle.temporal.specs.Ticket.{events, time}
use Rattle.temporal.specs.Distance.{consistent, distance}
use Rattle.temporal.proofs.Distance.{consistent_has}
use Rattle.temporal.proofs.DistanceLaws.{distance_upper}
use Rattle.temporal.specs.Run.{Valid}
use Rattle.network.specs.Stored.{at}
use Rattle.ticket.specs.Writing.{content}
use Rattle.ticket.proofs.Content.{in_events, limits}
use Rattle.ticket.specs.declared.Ticket.{Ticket}
use Rattle.potentials.specs.Arrays.{valid_given}
use Rattle.schedule.specs.Times.{times_of, schedule_timed, timed_schedule}
use Rattle.schedule.specs.Schedule.{Decided}
use Rattle.closure.specs.Cases.{by_lt, by_bool}
use Rattle.closure.specs.Signed.{bias, lower}
use Rattle.closure.specs.Matrix.{Matrix, Everywhere}
use Rattle.closure.specs.Start.{first_entries}
use Rattle.closure.specs.Stops.{after, AboveFloors}
use Rattle.closure.specs.ShortestPaths.{entries_low, entries_distance}
use Rattle.closure.specs.Answers.{start_kept, after_first}

-- the entries between the points 0 to n are the distances, stored 2,000,000 higher
pub record Distances (k : temporal.Ticket) (n : ℕ) (D : Matrix) : Type 0 where
  pub low : Everywhere n (λ i j. 1000000 ≤ D i j)
  pub high : Everywhere n (λ i j. D i j ≤ 3000000)
  pub are : Everywhere n (λ i j. distance k i j ≡ lower (D i j))

-- the two parts of an entry's number
pub lower_parts : (x : ℕ) → (above (lower x) ≡ x - bias) × (below (lower x) ≡ bias - x)
unfolding above below
lower_parts x =
    by_lt x bias
    (λ l. rw (lt-ltb x bias l) (omega arith, omega arith))
    (λ l. rw (le-ltb x bias l) (omega arith, omega arith))

-- ---- from a schedule to the distances

-- what the test for a schedule tells
pub decided_tells : (t : Ticket) → Valid (content t) → {times : List ℕ} {r : Bool} → Decided t times r → r ≡ consistent (content t)
decided_tells t v {times} {r} D =
    let G = valid_given t v in
    by_bool r
    (λ e. e ∙ sym (T-true (consistent (content t)) ((consistent_has (content t)).1 (times_of t.events (at times), timed_schedule G (at times) (D.found e)))))
    (λ e. e ∙ sym (T-false (consistent (content t)) (not_T (consistent (content t)) (λ c.
    let w = (consistent_has (content t)).0 c in
    D.none e (time w.0) (schedule_timed G w.0 w.1)))))

-- the entries D before the first stop, and R after all of them
module _ (t : Ticket) (v : Valid (content t)) (has : T (consistent (content t))) (D : Matrix) (first : Everywhere 40 (λ i j. D i j ≡ first_entries (content t) i j)) where
  same : Everywhere t.events (λ i j. D i j ≡ first_entries (content t) i j)
  same i j li lj = first i j (omega (arith, (limits t v).few)) (omega (arith, (limits t v).few))

  pub stops_kept : AboveFloors t.events D (t.events + 1)
  stops_kept = start_kept (content t) v t.events (in_events t) D same has (t.events + 1) (omega arith)

  pub stops_distances : (R : Matrix) → Everywhere t.events (λ i j. R i j ≡ after t.events D (t.events + 1) i j) → Distances (content t) t.events R
  stops_distances R next = record {
    low = λ i j li lj. omega (arith, near i j li lj, r i j li lj, v.horizon_limit);
    high = λ i j li lj.
        omega (arith, lower_parts (R i j), ap above (are i j li lj), above_most (distance (content t) i j) (below_top (distance (content t) i j) (distance_upper (content t) i j has)));
    are = are;
  }
    where
      r : Everywhere t.events (λ i j. R i j ≡ after t.events (first_entries (content t)) (t.events + 1) i j)
      r = after_first (content t) v t.events (in_events t) D same has (t.events + 1) (omega arith) R next

      near : Everywhere t.events (λ i j. bias ≤ t.horizon + after t.events (first_entries (content t)) (t.events + 1) i j)
      near i j li lj = rw (in_events t) at (entries_low (content t) v has (events (content t) + 1) (omega arith) i j (omega (arith, in_events t)) (omega (arith, in_events t)))

      are : Everywhere t.events (λ i j. distance (content t) i j ≡ lower (R i j))
      are i j li lj = (rw (in_events t) at (entries_distance (content t) v has i j (omega (arith, in_events t)) (omega (arith, in_events t)))).1 ∙ ap lower (sym (r i j li lj))

      below_top : (z : ℤ) → z ≤ℤ pos t.horizon → z ≤ℤ pos 1000000
      below_top (pos x) l = record { le = le→leb x 1000000 (omega (arith, leb→le x t.horizon l.le, v.horizon_limit)) }
      below_top (negsuc x) l = record { le = tt }
