-- The invariant: the first i events have their weights.
use Rattle.windows.specs.Weights.{Weighs}
use Rattle.windows.proofs.weigh.Given as goal

abbrev pub invariant-loop-i : goal.invariant-loop-i
invariant-loop-i l = Weighs l.owners l.weight l.i
