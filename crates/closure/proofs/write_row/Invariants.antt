-- What the loops of `closure::write_row` keep.
use Rattle.closure.specs.Matrix.{entry}
use Rattle.closure.specs.Written.{RowWritten}
use Rattle.closure.proofs.write_row.Given as goal

abbrev pub invariant-loop-j : goal.invariant-loop-j
invariant-loop-j l = RowWritten l.n l.i l.j (entry l.w) l.initial.out l.out
