-- `scan_tails` meets its contract. The invariant: the edges of the list from x on are visited, and x - 1 is the next.
use mathlib.Core.Path.{refl}
use Rattle.scan.specs.Sweep.{tail_asks, tail_more}
use Rattle.scan.proofs.scan_tails.Goals as goal

pub visit_tail-requires : goal.visit_tail-requires
visit_tail-requires c = let whole = tail_asks c.requires.scans c.requires.index c.loop-x.invariant c.loop-x-test.true refl in
    record { inside = (whole.0, whole.1); room = whole.2 }

pub loop-x-preserved : goal.loop-x-preserved
loop-x-preserved c = tail_more c.requires.scans c.requires.index c.loop-x.invariant c.loop-x-test.true refl c.visit_tail.ensures
