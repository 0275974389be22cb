-- `room` meets its contract. The invariant: the way from start to cur has room for f. The measure is the stamp of cur.
use Rattle.path.specs.Way.{roaming_none, roaming_more}
use Rattle.path.proofs.room.Goals as goal

pub loop-cur-init : goal.loop-cur-init
loop-cur-init c = let s = c.requires.start_lt_nodes in
    roaming_none s.0 s.1 s.2

pub loop-cur-preserved : goal.loop-cur-preserved
loop-cur-preserved c = let f = c.spare-f.ensures in
    let r = c.other-cur.ensures in
    (roaming_more c.requires.network c.requires.linked c.loop-cur-test.true c.loop-cur.invariant (record { forth = f.0; back = f.1 })
    (record { forth = r.0; back = r.1 })).0
