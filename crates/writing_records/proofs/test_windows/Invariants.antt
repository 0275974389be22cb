-- What `test_windows` keeps true: the tests so far are passed.
use mathlib.Core.Path.{◌≡◌}
use mathlib.Core.List.{[]}
use Rattle.ticket.specs.Parser.{got}
use Rattle.ticket.specs.Writing.{tests, test_window}
use Rattle.writing_records.proofs.test_windows.Given as goal

abbrev pub invariant-loop-i : goal.invariant-loop-i
invariant-loop-i l = tests l.i (test_window l.r) [] ≡ got tt []
