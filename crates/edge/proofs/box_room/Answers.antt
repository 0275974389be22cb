-- `box_room` meets its contract. The invariant is the contract for the nodes passed.
use native.Mathlib.Omega.{arith}
use Rattle.edge.specs.Headroom.{box_room_more}
use Rattle.edge.proofs.box_room.Goals as goal

pub loop-v-preserved : goal.loop-v-preserved
loop-v-preserved c = rw (c.min-best.ensures, c.slack.ensures) (box_room_more c.args.edges.now.network c.requires.potential c.loop-v.invariant (omega arith) c.loop-v-test.true)
