-- `row_possible` meets its contract. No entry in a column below j is below the lesser floor. Assumes nothing.
use native.Mathlib.Omega.{arith}
use Rattle.closure.specs.Matrix.{floor_same, floor_low}
use Rattle.closure.specs.Rows.{row_bad, row_good}
use Rattle.closure.proofs.row_possible.Goals as goal

pub returns-then-w-i-lt-BIAS : goal.returns-then-w-i-lt-BIAS
returns-then-w-i-lt-BIAS c = row_bad _ c.requires.1 c.requires.1 (omega (arith, floor_same c.args.i))

pub returns-then-w-i-lt-LEAST : goal.returns-then-w-i-lt-LEAST
returns-then-w-i-lt-LEAST c = let loop = c.loop-j in
    row_bad loop.j (omega arith) (omega arith) (omega (arith, floor_low c.args.i loop.j))

pub returns : goal.returns
returns c = row_good c.args.n c.args.i _ c.if-w-i-lt-BIAS.false (λ j l. c.loop-j.invariant j (omega arith))
