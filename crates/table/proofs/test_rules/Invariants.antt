-- What the loop of `table::test_rules` keeps.
use mathlib.Core.List.{map}
use Rattle.table.specs.Lent.{rule_of}
use Rattle.table.proofs.Rules.{Passed}
use Rattle.table.proofs.test_rules.Given as goal

abbrev pub invariant-loop-rule : goal.invariant-loop-rule
invariant-loop-rule l = Passed l.n (map rule_of l.rules) l.rule-index
