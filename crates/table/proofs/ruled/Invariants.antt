-- What the loop of `table::ruled` keeps.
use mathlib.Core.Path.{◌≡◌}
use mathlib.Core.List.{map}
use lib.ListN.{length}
use Rattle.table.specs.Lent.{rule_of}
use Rattle.table.proofs.Rules.{Ruling}
use Rattle.table.proofs.ruled.Given as goal

abbrev pub invariant-loop-rule : goal.invariant-loop-rule
invariant-loop-rule l = (length l.w ≡ 1681) × Ruling l.h (map rule_of l.rules) l.w l.rule-index
