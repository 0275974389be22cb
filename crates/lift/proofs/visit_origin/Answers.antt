-- `visit_origin` meets its contract. The invariant: of the box edges into the origin those from u on are left.
use Prim.Native.Nat.{◌<◌}
use native.Mathlib.Omega.{arith}
use mathlib.Core.Path.{refl}
use Rattle.std.proofs.Common.{inr}
use Rattle.std.proofs.lemmas.Result.{err_from_is_err_and}
use Rattle.lift.specs.Lift.{visit_passes, passes_none, passes_then, passes_ends, origin_edge, origin_next}
use Rattle.lift.proofs.visit_origin.Goals as goal

pub loop-u-init : goal.loop-u-init
loop-u-init c = passes_none c.requires (λ f lf h. (h, omega arith))

pub returns-in_err-visit : goal.returns-in_err-visit
returns-in_err-visit c =
    let p = err_from_is_err_and c.from_residual.result c.from_residual.ensures.1 in
    let N = c.args.edges.now.network in
    let P = c.loop-u.invariant in
    let pos : 0 < c.loop-u.u = omega arith in
    let e = origin_edge N pos c.loop-u-test.true in
    rw (p.1, p.2) (passes_ends (passes_then P (visit_passes N (P.ready refl).0 e.0 e.1 N.some c.in_err-visit.ensures (λ f lf h. inr h))))

pub loop-u-preserved : goal.loop-u-preserved
loop-u-preserved c =
    let N = c.args.edges.now.network in
    let P = c.loop-u.invariant in
    let pos : 0 < c.loop-u.u = omega arith in
    let e = origin_edge N pos c.loop-u-test.true in
    passes_then P (visit_passes N (P.ready refl).0 e.0 e.1 N.some c.in_ok-visit.ensures (origin_next N pos c.loop-u-test.true))

pub returns : goal.returns
returns c =
    let P = c.loop-u.invariant in
    passes_then P (passes_none (P.ready refl).0 (λ f lf h. (omega (arith, h.1), h.0)))
