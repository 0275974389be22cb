-- `boxes` meets its contract. The invariant: the nodes below v have their boxes, and nothing past them is changed.
use Prim.Native.Nat.{◌+◌, ◌*◌, ◌-◌, ◌≤◌}
use Rattle.network.specs.Stored.{at, Beyond}
use Rattle.network.specs.Edges.{Boxes}
use Rattle.network.proofs.boxes.Given as goal

abbrev pub invariant-loop-v : goal.invariant-loop-v
invariant-loop-v l = (l.v ≤ l.last + 1) × Boxes l.net l.v (at l.low) (at l.high) × Beyond l.initial.net l.net (8 * l.v - 8)
