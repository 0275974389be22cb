-- `put_one` meets its contract: nothing is stored for a point and itself, else one edge.
use native.Mathlib.Omega.{arith}
use mathlib.Core.Path.{sym}
use Rattle.potentials.specs.Nodes.{close_most}
use Rattle.parts.proofs.AllRules.{between_self, between_other}
use Rattle.part_network.specs.Lay.{bound_in, lays_none, lays_one, lays_same}
use Rattle.part_network.proofs.Distances.put_one.Goals as goal

pub returns-then-i-j : goal.returns-then-i-j
returns-then-i-j c = let s = c.args.self.now in
    lays_same (sym (between_self (bound_in s.points.now s.w.now) c.args.i c.args.j c.if-i-j.true)) (lays_none _ _ _)

pub put-requires : goal.put-requires
put-requires c = let few = c.args.self.now.few in
    (omega arith, omega arith, omega (arith, c.close_node.ensures, close_most c.args.self.now.n c.args.j))

pub returns : goal.returns
returns c = let s = c.args.self.now in
    lays_same (sym (between_other (bound_in s.points.now s.w.now) c.args.i c.args.j c.if-i-j.false))
    (lays_one _ (rw (c.close_node.ensures, c.cost.ensures) at c.put.ensures))
