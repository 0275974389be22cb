-- `least_slack` meets its contract. The invariant is the contract for the edges passed.
use Prim.Native.Nat.{◌*◌, ◌-◌}
use Rattle.network.specs.Index.{listed_as}
use Rattle.edge.specs.Slack.{Passed}
use Rattle.edge.proofs.least_slack.Given as goal

abbrev pub invariant-loop-next : goal.invariant-loop-next
invariant-loop-next g l = Passed l.fn.edges.net.now l.fn.edges.m (2 * l.fn.edges.nodes - 2) g.row.SIDE l.pot l.v l.most (listed_as l.next) l.least

abbrev pub decreases-loop-next : goal.decreases-loop-next
decreases-loop-next g l = listed_as l.next
