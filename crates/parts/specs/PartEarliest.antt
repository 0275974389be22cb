-- The earliest times of a device's events are a schedule of its part (`part_earliest`). The distance from a point to point 0 is minus its earliest time.
use Rattle.std.specs.Prelude.{List, length}
use Prim.Native.Nat.{ℕ, suc}
use Rattle.temporal.specs.Lists.{tab}
use Rattle.temporal.specs.Bound.{below}
use Rattle.temporal.specs.Ticket.{Ticket}
use Rattle.temporal.specs.Distance.{distance}
use Rattle.parts.specs.Part.{members, point}

-- ---- earliest times

abbrev pub earliest : Ticket → ℕ → ℕ
earliest k p = below (distance k p 0)

-- of the device's events
abbrev pub earliest_times : ℕ → Ticket → List ℕ
earliest_times d k = tab (length (members d k)) (λ i. earliest k (point d k (suc i)))
