-- `height` meets its contract: the box edge into the node, and the edges in its list.
use Rattle.edge.specs.Height.{slack_height}
use Rattle.edge.proofs.height.Goals as goal

pub returns : goal.returns
returns c = slack_height c.args.edges.now.network c.requires.potential c.requires.v_nonzero.0 c.requires.v_nonzero.1 (rw c.slack-most.ensures at c.least_slack.ensures)
