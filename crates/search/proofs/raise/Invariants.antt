-- `raise` meets its contract. The invariant: the nodes passed have moved, and the others are as they were.
use Rattle.search.specs.Raise.{Lifted}
use Rattle.search.proofs.raise.Given as goal

abbrev pub invariant-loop-v : goal.invariant-loop-v
invariant-loop-v l = Lifted l.initial.pot l.pot l.dist l.d l.v
