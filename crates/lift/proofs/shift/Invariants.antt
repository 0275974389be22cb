-- `shift` meets its contract. The invariant: the nodes below v are lowered, and the others are as they were.
use Rattle.lift.specs.Lift.{Shifting}
use Rattle.lift.proofs.shift.Given as goal

abbrev pub invariant-loop-v : goal.invariant-loop-v
invariant-loop-v l = Shifting l.initial.pot l.pot l.v
