-- What the loop of `Rules::follow` keeps: i of the rules are found, the last of them is `rule`, and the ring can still be closed.
use Rattle.std.proofs.Common.{◌*◌, ◌≤◌}
use Rattle.ring.specs.Search.{Following}
use Rattle.ring.proofs.rules.Rules.follow.Given as goal

abbrev pub invariant-loop-i : goal.invariant-loop-i
invariant-loop-i l = record {
  cost_most : l.s ≤ 2000000 * l.i;
  so_far : Following l.self l.w.costs l.first l.count l.i l.s l.rule.to l.out;
}
