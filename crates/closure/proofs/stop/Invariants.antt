-- What the loops of `closure::stop` keep.
use mathlib.Core.Path.{◌≡◌}
use lib.ListN.{length}
use Rattle.closure.specs.Matrix.{entry}
use Rattle.closure.specs.Rows.{RowsRelaxed}
use Rattle.closure.proofs.stop.Given as goal

abbrev pub invariant-loop-i : goal.invariant-loop-i
invariant-loop-i l = (length l.w ≡ 1681) × RowsRelaxed l.n l.k l.i (entry l.initial.w) (entry l.w)
