-- `headroom` meets its contract: the boxes, and the edges in the origin's list.
use Rattle.edge.specs.Headroom.{slack_headroom}
use Rattle.edge.proofs.headroom.Goals as goal

pub returns : goal.returns
returns c = slack_headroom c.args.edges.now.network c.requires.potential c.box_room-room.ensures c.least_slack.ensures
