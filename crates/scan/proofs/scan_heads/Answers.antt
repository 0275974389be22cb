-- `scan_heads` meets its contract. The invariant: the edges of the list from x on are visited, and x - 1 is the next.
use mathlib.Core.Path.{refl}
use Rattle.scan.specs.Sweep.{head_asks, head_more}
use Rattle.scan.proofs.scan_heads.Goals as goal

pub visit_head-requires : goal.visit_head-requires
visit_head-requires c = let whole = (head_asks c.requires.scans c.requires.index c.loop-x.invariant c.loop-x-test.true refl) in record { step = whole.0; room = whole.1 }

pub loop-x-preserved : goal.loop-x-preserved
loop-x-preserved c = head_more c.requires.scans c.requires.index c.loop-x.invariant c.loop-x-test.true refl c.visit_head.ensures
