-- `shift` meets its contract. The invariant is the contract for the nodes passed.
use Rattle.warm.specs.Center.{Shifted}
use Rattle.warm.proofs.shift.Given as goal

abbrev pub invariant-loop-v : goal.invariant-loop-v
invariant-loop-v l = Shifted l.initial.pot l.pot l.v l.h
