-- What the loops of `closure::write` keep.
use Rattle.closure.specs.Matrix.{entry}
use Rattle.closure.specs.Written.{Writing}
use Rattle.closure.proofs.write.Given as goal

abbrev pub invariant-loop-i : goal.invariant-loop-i
invariant-loop-i l = Writing l.n (entry l.w) l.initial.out l.out l.i
