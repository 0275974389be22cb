-- What `test_owners` keeps true: the tests so far are passed.
use mathlib.Core.Path.{◌≡◌}
use mathlib.Core.List.{[]}
use Rattle.ticket.specs.Parser.{got}
use Rattle.ticket.specs.Writing.{tests, test_owner}
use Rattle.writing.proofs.test_owners.Given as goal

abbrev pub invariant-loop-owner : goal.invariant-loop-owner
invariant-loop-owner l = tests l.owner-index (test_owner l.t) [] ≡ got tt []
