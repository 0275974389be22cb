-- `least_slack` meets its contract. The invariant is the contract for the edges passed.
use native.Mathlib.Omega.{arith}
use Rattle.edge.specs.Limit.{edge_fits}
use Rattle.edge.specs.Slack.{passed_edge, passed_more, passed_zero}
use Rattle.edge.proofs.least_slack.Goals as goal

pub slack-slack-requires-clause-edge_fits : goal.slack-slack-requires-clause-edge_fits
slack-slack-requires-clause-edge_fits g c =
    let here = rw c.in-Some.is at c.loop-next.invariant in
    edge_fits c.args.edges.now.network c.requires.potential _ (passed_edge c.in-Some.e here).0

pub returns-then-slack-eq0 : goal.returns-then-slack-eq0
returns-then-slack-eq0 g c =
    let here = rw c.in-Some.is at c.loop-next.invariant in
    passed_zero c.in-Some.e here (omega (arith, c.slack-slack.ensures))

pub loop-next-preserved : goal.loop-next-preserved
loop-next-preserved g c =
    let here = rw c.in-Some.is at c.loop-next.invariant in
    rw (c.min-least.ensures, c.slack-slack.ensures) (passed_more c.in-Some.e here (rw (passed_edge c.in-Some.e here).2 at c.before-next.ensures))
