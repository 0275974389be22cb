-- What the loops of `closure::take_stops` keep.
use mathlib.Core.Path.{◌≡◌}
use lib.ListN.{length}
use Rattle.closure.specs.Matrix.{entry}
use Rattle.closure.specs.Closing.{Closing}
use Rattle.closure.proofs.take_stops.Given as goal

abbrev pub invariant-loop-taken : goal.invariant-loop-taken
invariant-loop-taken l = (length l.w ≡ 1681) × Closing l.n (entry l.initial.w) (entry l.w) l.taken
