-- `widest` meets its contract, by those of `weigh` and `solve`.
use Rattle.std.proofs.Common.{arith}
use Rattle.flow.specs.Solve.{empty_zeros}
use Rattle.windows.specs.Weights.{weighs_none}
use Rattle.windows.proofs.widest.Goals as goal

pub weigh-requires-clause-weighs : goal.weigh-requires-clause-weighs
weigh-requires-clause-weighs c = weighs_none _

pub solve-requires-clause-empty : goal.solve-requires-clause-empty
solve-requires-clause-empty c = (empty_zeros 400 (omega (arith, c.requires.n_bound)), empty_zeros 400 (omega (arith, c.requires.n_bound)))
