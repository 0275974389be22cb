-- `last_goal` meets its contract. The invariant: the places passed have no goal.
use Rattle.search.specs.Reach.{NoGoal}
use Rattle.search.proofs.last_goal.Given as goal

abbrev pub invariant-loop-k : goal.invariant-loop-k
invariant-loop-k l = NoGoal l.order l.goal l.hi l.k
