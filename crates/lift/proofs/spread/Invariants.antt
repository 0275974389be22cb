-- `spread` meets its contract. The invariant: the nodes in the queue below s are done.
use Prim.Native.Nat.{◌-◌}
use Rattle.lift.specs.Lift.{Going}
use Rattle.lift.proofs.spread.Given as goal

abbrev pub invariant-loop-s : goal.invariant-loop-s
invariant-loop-s l = Going l.edges.net.now l.edges.m l.edges.nodes l.b l.initial.pot l.initial.queue l.pot l.queue l.s

abbrev pub decreases-loop-s : goal.decreases-loop-s
decreases-loop-s l = 400 - l.s
