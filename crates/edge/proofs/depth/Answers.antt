-- `depth` meets its contract: the box edge out of the node, and the edges in its list.
use native.Mathlib.Omega.{arith}
use Rattle.edge.specs.Limit.{edge_fits}
use Rattle.edge.specs.Depth.{slack_depth}
use Rattle.edge.proofs.depth.Goals as goal

pub slack-most-requires-clause-edge_fits : goal.slack-most-requires-clause-edge_fits
slack-most-requires-clause-edge_fits c =
    let N = c.args.edges.now.network in
    edge_fits N c.requires.potential _ (omega (arith, N.links c.args.v c.requires.v_nonzero.1 c.requires.v_nonzero.0))

pub returns : goal.returns
returns c = slack_depth c.args.edges.now.network c.requires.potential c.requires.v_nonzero.0 c.requires.v_nonzero.1 (rw c.slack-most.ensures at c.least_slack.ensures)
