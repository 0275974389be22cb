-- What the loop of `Rules::round` keeps: the round has passed the rules below e.
use Rattle.std.proofs.Common.{◌+◌, ◌-◌, ◌≤◌}
use Rattle.ring.specs.WalkTable.{Round}
use Rattle.ring.proofs.rules.Rules.round.Given as goal

abbrev pub invariant-loop-e : goal.invariant-loop-e
invariant-loop-e l = record { end : l.e ≤ l.self.count + 1; passed : Round l.self l.r (l.e - 1) l.initial.w.costs l.w.costs }
