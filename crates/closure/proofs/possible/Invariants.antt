-- `possible` meets its contract. No entry of a row below i is below its floor. Assumes nothing.
use Prim.Native.Nat.{ℕ, ◌≤◌, ◌<◌}
use Rattle.closure.specs.Matrix.{entry, floor}
use Rattle.closure.proofs.possible.Given as goal

abbrev pub invariant-loop-i : goal.invariant-loop-i
invariant-loop-i l = (r : ℕ) → r < l.i → (j : ℕ) → j ≤ l.n → floor r j ≤ entry l.w r j
