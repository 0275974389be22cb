-- `visit_list` meets its contract. The invariant: of the listed edges into v those up to the next one are left.
use native.Mathlib.Omega.{arith}
use mathlib.Core.Path.{refl}
use Rattle.std.proofs.Common.{inr}
use Rattle.std.proofs.lemmas.Result.{err_from_is_err_and}
use Rattle.lift.specs.Lift.{visit_passes, passes_none, passes_then, passes_ends, list_first, list_edge, list_step}
use Rattle.lift.proofs.visit_list.Goals as goal

pub loop-next-init : goal.loop-next-init
loop-next-init c = let l = list_first c.last-next.ensures in record { next = l.0; passes = passes_none c.requires.0 l.1 }

pub returns-in_err-visit : goal.returns-in_err-visit
returns-in_err-visit c =
    let p = err_from_is_err_and c.from_residual.result c.from_residual.ensures.1 in
    let U = rw c.in-Some.is at c.loop-next.invariant.next in
    let P = c.loop-next.invariant.passes in
    let e = list_edge c.in-Some.e U in
    rw (p.1, p.2) (passes_ends (passes_then P (visit_passes c.args.edges.now.network (P.ready refl).0 e.0 e.2 c.requires.1 c.in_err-visit.ensures (λ f lf h. inr h))))

pub loop-next-preserved : goal.loop-next-preserved
loop-next-preserved c =
    let U = rw c.in-Some.is at c.loop-next.invariant.next in
    let P = rw c.in-Some.is at c.loop-next.invariant.passes in
    let e = list_edge c.in-Some.e U in
    let then = list_step c.in-Some.e U c.before-next.ensures in
    record {
      next = then.0;
      passes = passes_then P (visit_passes c.args.edges.now.network (P.ready refl).0 e.0 e.2 c.requires.1 c.in_ok-visit.ensures then.1);
    }

pub returns : goal.returns
returns c =
    let P = rw c.in_default.is at c.loop-next.invariant.passes in
    passes_then P (passes_none (P.ready refl).0 (λ f lf h. omega (arith, h.1)))
