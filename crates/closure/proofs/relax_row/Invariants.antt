-- What the loops of `closure::relax_row` keep.
use mathlib.Core.Path.{◌≡◌}
use lib.ListN.{length}
use Rattle.std.specs.Prelude.{slice_index}
use Rattle.closure.specs.Matrix.{entry}
use Rattle.closure.specs.Rows.{Columns}
use Rattle.closure.proofs.relax_row.Given as goal

abbrev pub invariant-loop-j : goal.invariant-loop-j
invariant-loop-j l = (length l.w ≡ 1681) × Columns l.n l.k l.i l.j (slice_index l.row) (entry l.initial.w) (entry l.w)
