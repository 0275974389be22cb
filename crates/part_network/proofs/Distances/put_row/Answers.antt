-- `put_row` meets its contract. The invariant: the rules to the points below j are stored.
use native.Mathlib.Omega.{arith}
use Prim.Native.Nat.{suc, ◌+◌}
use mathlib.Core.Path.{◌≡◌}
use Rattle.parts.specs.Part.{rule_between}
use Rattle.parts.proofs.AllRules.{row_few}
use Rattle.part_network.specs.Lay.{bound_in, lays_start, lays_more}
use Rattle.part_network.proofs.Distances.put_row.Goals as goal

pub loop-j-init : goal.loop-j-init
loop-j-init c = lays_start _ _ _ _

pub put_one-next-requires : goal.put_one-next-requires
put_one-next-requires c = let s = c.args.self.now in
    let L = c.loop-j.invariant in
    let few = row_few (bound_in s.points.now s.w.now) c.args.i c.loop-j.j in
    let most = s.few in
    (omega arith, omega arith, omega (arith, L.counted, L.extends.long, few), omega (arith, L.counted, few))

pub loop-j-preserved : goal.loop-j-preserved
loop-j-preserved c = let s = c.args.self.now in
    lays_more (rule_between (bound_in s.points.now s.w.now) c.args.i) c.loop-j.invariant c.put_one-next.ensures

pub returns-2 : goal.returns-2
returns-2 c = let s = c.args.self.now in
    let e : c.loop-j.j + 1 ≡ suc s.n = omega arith in
    rw e at (lays_more (rule_between (bound_in s.points.now s.w.now) c.args.i) c.loop-j.invariant c.put_one-next.ensures)
