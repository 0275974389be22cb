-- `push` meets its contract. The invariant: f units have come from start to cur. The measure is the stamp of cur.
use lib.ListN.{get_or}
use Rattle.path.specs.Push.{Pushed}
use Rattle.path.proofs.push.Given as goal

abbrev pub invariant-loop-cur : goal.invariant-loop-cur
invariant-loop-cur l = Pushed l.initial.net l.net l.m l.nodes l.trail.stamp l.trail.via l.trail.root l.start l.f l.cur

abbrev pub decreases-loop-cur : goal.decreases-loop-cur
decreases-loop-cur l = get_or l.trail.stamp l.cur 0
