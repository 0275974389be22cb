-- `widest` meets its contract, by those of `weigh` and `solve`.
use Rattle.std.proofs.Common.{arith}
use Rattle.flow.specs.Solve.{empty_zeros}
use Rattle.windows.specs.Weights.{weighs_none}
use Rattle.part_windows.proofs.widest.Goals as goal

pub weigh-requires : goal.weigh-requires
weigh-requires c = record {
  n_bound = c.requires.n_bound.0;
  weighs = weighs_none _;
}

pub solve-requires-clause-empty : goal.solve-requires-clause-empty
solve-requires-clause-empty c = (empty_zeros 1761 (omega (arith, c.requires.n_bound)), empty_zeros 1761 (omega (arith, c.requires.n_bound)))
