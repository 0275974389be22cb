-- `visit_node` meets its contract: the box edges, and then the others.
use Rattle.std.proofs.lemmas.Result.{err_from_is_err_and}
use Rattle.lift.specs.Lift.{passes_then, passes_ends}
use Rattle.lift.proofs.visit_node.Goals as goal

pub returns-in_err-visit_box : goal.returns-in_err-visit_box
returns-in_err-visit_box c =
    let p = err_from_is_err_and c.from_residual.result c.from_residual.ensures.1 in
    rw (p.1, p.2) (passes_ends c.in_err-visit_box.ensures)

pub returns : goal.returns
returns c = passes_then c.in_ok-visit_box.ensures c.visit_list.ensures
