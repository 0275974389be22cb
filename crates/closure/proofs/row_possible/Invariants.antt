-- What the loops of `closure::row_possible` keep.
use Prim.Native.Nat.{ℕ, ◌≤◌, ◌<◌}
use Rattle.closure.specs.Matrix.{entry}
use Rattle.closure.proofs.row_possible.Given as goal

abbrev pub invariant-loop-j : goal.invariant-loop-j
invariant-loop-j l = (c : ℕ) → c < l.j → 1000000 ≤ entry l.w l.i c
