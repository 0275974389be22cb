-- `write_row` meets its contract. The loop has written the columns below j. Assumes nothing.
use native.Mathlib.Omega.{arith}
use Rattle.closure.specs.Matrix.{entry}
use Rattle.closure.specs.Written.{row_more}
use Rattle.closure.proofs.write_row.Goals as goal

pub loop-j-preserved : goal.loop-j-preserved
loop-j-preserved c =
    rw c.put.ensures
    (row_more c.args.n c.args.i c.loop-j.j (entry c.args.w.now) c.args.out.now c.loop-j.out
    (omega arith) (omega arith) (omega arith) (omega arith) c.loop-j.invariant)
