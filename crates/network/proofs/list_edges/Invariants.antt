-- `list_edges` meets its contract. The invariant is the contract for the edges passed.
use Rattle.network.specs.Index.{Index}
use Rattle.network.proofs.list_edges.Given as goal

abbrev pub invariant-loop-e : goal.invariant-loop-e
invariant-loop-e l = Index l.net l.e l.base 0 l.tails × Index l.net l.e l.base 1 l.heads
