-- `unruled` meets its contract. The loop has stored the entries between the points below i. Assumes nothing.
use native.Mathlib.Omega.{arith}
use Rattle.closure.specs.Plain.{points_more}
use Rattle.closure.proofs.unruled.Goals as goal

pub loop-i-preserved : goal.loop-i-preserved
loop-i-preserved c = points_more c.args.h c.loop-i.i c.loop-i.w (omega arith) c.loop-i.invariant
