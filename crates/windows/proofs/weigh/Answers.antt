-- `weigh` meets its contract.
use Rattle.std.proofs.Common.{arith}
use Rattle.windows.specs.Weights.{weighs_more}
use Rattle.windows.proofs.weigh.Goals as goal

pub loop-i-preserved : goal.loop-i-preserved
loop-i-preserved c = weighs_more (omega arith) c.weight.ensures c.loop-i.invariant
