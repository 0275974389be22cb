-- What the loop of `table::gathered` keeps.
use mathlib.Core.Path.{◌≡◌}
use mathlib.Core.List.{map}
use lib.ListN.{length, take}
use Rattle.table.specs.Lent.{rule_of, rules_of}
use Rattle.table.proofs.gathered.Given as goal

abbrev pub invariant-loop-e : goal.invariant-loop-e
invariant-loop-e l = (length l.rules ≡ 256) × (map rule_of (take l.e l.rules) ≡ rules_of l.e l.from l.to l.bound)
