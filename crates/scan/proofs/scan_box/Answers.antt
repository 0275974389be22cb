-- `scan_box` meets its contract.
use native.Mathlib.Omega.{arith}
use Rattle.scan.specs.Sweep.{node_asks, node_swept}
use Rattle.scan.proofs.scan_box.Goals as goal

pub visit_box-requires : goal.visit_box-requires
visit_box-requires c = let q = node_asks c.requires.search c.requires.scans (omega (arith, c.if-w-eq0.false)) in record { step = q.0; inside = q.1; room = q.2 }

pub returns-else-w-eq0 : goal.returns-else-w-eq0
returns-else-w-eq0 c = node_swept c.requires.search c.requires.scans (omega (arith, c.if-w-eq0.false)) c.visit_box.ensures
