-- What `test_rules` keeps true: the tests so far are passed.
use mathlib.Core.Path.{◌≡◌}
use mathlib.Core.List.{[]}
use Rattle.ticket.specs.Parser.{got}
use Rattle.ticket.specs.Writing.{tests, test_rule}
use Rattle.writing.proofs.test_rules.Given as goal

abbrev pub invariant-loop-i : goal.invariant-loop-i
invariant-loop-i l = tests l.i (test_rule l.t) [] ≡ got tt []
