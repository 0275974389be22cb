-- `scan_origin` meets its contract. The invariant: the box edges of the nodes passed are visited.
use native.Mathlib.Omega.{arith}
use Rattle.scan.specs.Sweep.{origin_asks, origin_more}
use Rattle.scan.proofs.scan_origin.Goals as goal

pub visit_box-requires : goal.visit_box-requires
visit_box-requires c = let a = c.loop-v in
    let q = origin_asks a.v c.requires.scans a.invariant (omega arith) c.loop-v-test.true in record { step = q.0; inside = q.1; room = q.2 }

pub loop-v-preserved : goal.loop-v-preserved
loop-v-preserved c = let a = c.loop-v in
    origin_more a.v c.requires.scans a.invariant (omega arith) c.loop-v-test.true c.visit_box.ensures
