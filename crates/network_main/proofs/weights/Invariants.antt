-- `network_main::weights` meets its contract. The invariant: the first i events have their weights. Assumes nothing.
use Rattle.flow.specs.Solve.{Weights}
use Rattle.network_main.proofs.weights.Given as goal

abbrev pub invariant-loop-i : goal.invariant-loop-i
invariant-loop-i l = Weights l.i l.weight
