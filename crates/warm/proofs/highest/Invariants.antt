-- `highest` meets its contract. The invariant is the contract for the nodes passed.
use Rattle.warm.specs.Highest.{Highest}
use Rattle.warm.proofs.highest.Given as goal

abbrev pub invariant-loop-time : goal.invariant-loop-time
invariant-loop-time l = Highest l.pot l.time-index l.top
