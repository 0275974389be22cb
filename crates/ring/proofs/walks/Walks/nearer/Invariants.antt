-- What the loop of `Walks::nearer` keeps: no ring of fewer than r rules goes through the root.
use Rattle.std.proofs.Common.{◌*◌, ◌<◌}
use Rattle.ring.specs.FirstOr.{Passed}
use Rattle.ring.specs.WalkTable.{cell}
use Rattle.ring.proofs.walks.Walks.nearer.Given as goal

abbrev pub invariant-loop-r : goal.invariant-loop-r
invariant-loop-r l = Passed (λ x. cell l.self.costs x l.q < x * 1000000) l.r
