-- `visit_box` meets its contract: the origin has a box edge of every node, any other node one of its own.
use native.Mathlib.Omega.{arith}
use Rattle.lift.specs.Lift.{visit_passes, box_head, box_only}
use Rattle.lift.proofs.visit_box.Goals as goal

pub returns-else-v-eq0 : goal.returns-else-v-eq0
returns-else-v-eq0 c =
    let N = c.args.edges.now.network in
    let h = box_head N c.requires.1 (omega arith) in
    visit_passes N c.requires.0 h.0 h.1 c.requires.1 c.visit.ensures (box_only N c.requires.1 (omega arith))
