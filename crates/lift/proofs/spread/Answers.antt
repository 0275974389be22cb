-- `spread` meets its contract. The invariant: the nodes in the queue below s are done.
use native.Mathlib.Omega.{arith}
use Rattle.std.proofs.lemmas.Result.{err_from_is_err_and}
use Rattle.lift.specs.Lift.{going_next, going_ends}
use Rattle.lift.proofs.spread.Goals as goal

pub returns-in_err-visit_node : goal.returns-in_err-visit_node
returns-in_err-visit_node c =
    let p = err_from_is_err_and c.from_residual.result c.from_residual.ensures.1 in
    rw (p.1, p.2) (going_ends c.loop-s.invariant c.in_err-visit_node.ensures)

pub loop-s-preserved : goal.loop-s-preserved
loop-s-preserved c = going_next c.loop-s.invariant (omega (arith, c.len.ensures.value)) (rw c.at-v.ensures at c.in_ok-visit_node.ensures)
