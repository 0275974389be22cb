-- `explore` meets its contract. Each turn looks at the nodes that were just reached, and then reaches the nearest or scans one.
use Prim.Native.Nat.{◌+◌, ◌*◌, ◌-◌}
use Rattle.search.specs.Reach.{Searching}
use Rattle.search.proofs.explore.Given as goal

abbrev pub invariant-loop-seen : goal.invariant-loop-seen
invariant-loop-seen l = Searching l.net l.m l.nodes l.pot l.trail l.root l.goal l.seen

abbrev pub decreases-loop-seen : goal.decreases-loop-seen
decreases-loop-seen l = 2 * l.nodes - (l.trail.reached + l.trail.scanned)
