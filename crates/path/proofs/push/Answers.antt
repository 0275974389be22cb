-- `push` meets its contract. The invariant: f units have come from start to cur. The measure is the stamp of cur.
use Rattle.path.specs.Push.{pushed_none, pushed_more}
use Rattle.path.proofs.push.Goals as goal

pub loop-cur-init : goal.loop-cur-init
loop-cur-init c = let p = c.requires in
    pushed_none p.inside p.reached c.room-f.ensures

pub loop-cur-preserved : goal.loop-cur-preserved
loop-cur-preserved c = let p = c.requires in
    (pushed_more p.network p.linked p.small c.loop-cur-test.true c.loop-cur.invariant c.walk-cur.ensures).0
