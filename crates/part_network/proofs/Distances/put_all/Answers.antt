-- `put_all` meets its contract. The invariant: the rules from the points below i are stored.
use native.Mathlib.Omega.{arith}
use Prim.Native.Nat.{suc, ◌+◌}
use mathlib.Core.Path.{◌≡◌}
use Rattle.parts.specs.Part.{joined, rule_between, all_rules}
use Rattle.parts.proofs.AllRules.{rows_length}
use Rattle.part_network.specs.Lay.{bound_in, lays_start, lays_more}
use Rattle.part_network.proofs.Distances.put_all.Goals as goal

pub loop-i-init : goal.loop-i-init
loop-i-init c = lays_start _ _ _ _

pub put_row-next-requires : goal.put_row-next-requires
put_row-next-requires c = let s = c.args.self.now in
    let L = c.loop-i.invariant in
    let most = s.few in
    let few = rows_length (bound_in s.points.now s.w.now) s.n c.loop-i.i (omega arith) (omega arith) in
    (omega arith, omega (arith, L.counted, L.extends.long, few), omega (arith, L.counted, few))

pub loop-i-preserved : goal.loop-i-preserved
loop-i-preserved c = let s = c.args.self.now in
    lays_more (λ i. joined (suc s.n) (rule_between (bound_in s.points.now s.w.now) i)) c.loop-i.invariant c.put_row-next.ensures

pub returns-2 : goal.returns-2
unfolding all_rules
returns-2 c = let s = c.args.self.now in
    let e : c.loop-i.i + 1 ≡ suc s.n = omega arith in
    rw e at (lays_more (λ i. joined (suc s.n) (rule_between (bound_in s.points.now s.w.now) i)) c.loop-i.invariant c.put_row-next.ensures)
