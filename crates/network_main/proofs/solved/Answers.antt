-- `network_main::solved` is safe and ends. Assumes nothing.
use Rattle.std.proofs.Common.{arith}
use Rattle.flow.specs.Solve.{weights_none, empty_zeros}
use Rattle.network_main.proofs.solved.Goals as goal

pub weights-requires : goal.weights-requires
weights-requires c = (omega arith, weights_none)

pub solve-requires : goal.solve-requires
solve-requires c = record {
  flowless = c.requires.flowless.0;
  spans = c.requires.flowless.1;
  weights = c.weights.ensures;
  empty = (empty_zeros 400 (omega (arith, c.requires.n_bound)), empty_zeros 400 (omega (arith, c.requires.n_bound)));
}
