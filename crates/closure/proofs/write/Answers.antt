-- `write` meets its contract. The loop has written the rows below i. Assumes nothing.
use native.Mathlib.Omega.{arith}
use Rattle.closure.specs.Written.{writing_more}
use Rattle.closure.proofs.write.Goals as goal

pub loop-i-preserved : goal.loop-i-preserved
loop-i-preserved c = writing_more (omega arith) c.loop-i.invariant c.write_row.ensures
