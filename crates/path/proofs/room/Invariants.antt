-- `room` meets its contract. The invariant: the way from start to cur has room for f. The measure is the stamp of cur.
use lib.ListN.{get_or}
use Rattle.path.specs.Way.{Roaming}
use Rattle.path.proofs.room.Given as goal

abbrev pub invariant-loop-cur : goal.invariant-loop-cur
invariant-loop-cur l = Roaming l.net l.nodes l.trail.stamp l.trail.via l.start l.want l.f l.cur

abbrev pub decreases-loop-cur : goal.decreases-loop-cur
decreases-loop-cur l = get_or l.trail.stamp l.cur 0
