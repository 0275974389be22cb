-- What the loop of `Rules::beginning` keeps: the start of the rings through the points below q.
use Rattle.ring.specs.Search.{Begins}
use Rattle.ring.proofs.rules.Rules.beginning.Given as goal

abbrev pub invariant-loop-q : goal.invariant-loop-q
invariant-loop-q l = Begins l.n l.self l.q l.start
