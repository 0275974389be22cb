-- What `test_counts` keeps true: the tests so far are passed.
use mathlib.Core.Path.{◌≡◌}
use mathlib.Core.List.{[]}
use Rattle.ticket.specs.Parser.{got}
use Rattle.ticket.specs.Writing.{tests, test_count}
use Rattle.writing_records.proofs.test_counts.Given as goal

abbrev pub invariant-loop-o : goal.invariant-loop-o
invariant-loop-o l = tests l.o (test_count l.r) [] ≡ got tt []
