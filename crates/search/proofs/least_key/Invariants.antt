-- `least_key` meets its contract. The invariant is the contract for the keys passed.
use Rattle.search.specs.Nearest.{LeastKey}
use Rattle.search.proofs.least_key.Given as goal

abbrev pub invariant-loop-v : goal.invariant-loop-v
invariant-loop-v l = LeastKey l.key l.v l.best
