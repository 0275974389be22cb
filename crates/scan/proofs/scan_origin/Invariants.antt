-- `scan_origin` meets its contract. The invariant: the box edges of the nodes passed are visited.
use Prim.Native.Nat.{◌*◌, ◌-◌}
use Rattle.scan.specs.Sweep.{Swept, EdgesBelow}
use Rattle.scan.proofs.scan_origin.Given as goal

abbrev pub invariant-loop-v : goal.invariant-loop-v
invariant-loop-v l = Swept l.net l.m l.nodes l.pot l.initial.trail l.trail 0 (EdgesBelow (2 * l.v - 2))
