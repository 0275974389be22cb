-- `highest` meets its contract. The invariant is the contract for the nodes passed.
use Rattle.std.proofs.Common.{arith}
use Rattle.std.proofs.lemmas.Grind.{common_steps}
use Rattle.warm.specs.Highest.{highest_more}
use Rattle.warm.proofs.highest.Goals as goal

pub loop-time-preserved : goal.loop-time-preserved
loop-time-preserved c = rw c.max-top.ensures (highest_more c.loop-time.invariant (grind (arith, common_steps)))
