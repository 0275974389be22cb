-- What the loops of `closure::closure` keep.
use Prim.Native.Nat.{◌-◌}
use mathlib.Core.Path.{◌≡◌}
use lib.ListN.{length}
use Rattle.closure.specs.Matrix.{entry}
use Rattle.closure.specs.Closing.{Closing}
use Rattle.closure.proofs.closure.Given as goal

abbrev pub invariant-loop-k : goal.invariant-loop-k
invariant-loop-k l = (length l.w ≡ 1681) × Closing l.n (entry l.initial.w) (entry l.w) (l.n - l.k)
