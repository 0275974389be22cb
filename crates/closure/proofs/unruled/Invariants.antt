-- What the loops of `closure::unruled` keep.
use Rattle.closure.specs.Plain.{Points}
use Rattle.closure.proofs.unruled.Given as goal

abbrev pub invariant-loop-i : goal.invariant-loop-i
invariant-loop-i l = Points l.h l.i l.w
