-- `explore` meets its contract. Each turn looks at the nodes that were just reached, and then reaches the nearest or scans one.
use native.Mathlib.Omega.{arith}
use Rattle.std.proofs.Common.{◌≡◌, length, rules}
use Rattle.search.specs.Reach.{searching_start, searching_near, explored_goal, explored_all}
use Rattle.search.proofs.explore.Goals as goal

pub loop-seen-init : goal.loop-seen-init
loop-seen-init c = let lv : length c.args.trail.now.via ≡ 81 = search rules in
    let lo : length c.args.trail.now.order ≡ 81 = search rules in
    rw c.start.ensures (searching_start c.requires c.args.trail.now lv lo)

pub returns-in-Some : goal.returns-in-Some
returns-in-Some c = explored_goal c.loop-seen.invariant c.in-Some.ensures

pub loop-seen-preserved-then-trail : goal.loop-seen-preserved-then-trail
loop-seen-preserved-then-trail c = searching_near c.loop-seen.invariant c.in_default.ensures c.loop-seen-test.true c.if-trail.true c.next-w.ensures c.join.ensures

pub returns : goal.returns
returns c = explored_all c.loop-seen.invariant (omega (arith, c.loop-seen-test.false))
