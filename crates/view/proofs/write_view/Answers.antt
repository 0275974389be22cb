-- `write_view` meets its contract: 15 where the windows are not fit, else the events and their count are stored at the start of the output.
use native.Mathlib.Omega.{arith}
use Prim.Native.Nat.{◌≤◌}
use mathlib.Core.Path.{refl, ap, ◌∙◌}
use lib.Seq.{sets}
use Rattle.ticket.specs.Writer.{bytes}
use Rattle.ticket.specs.Writing.{state_of}
use Rattle.potentials.specs.Arrays.{window_list}
use Rattle.causes.specs.Structs.{lies_asked}
use Rattle.viewing.proofs.View.{viewed_unfit}
use Rattle.viewing.proofs.Laws.{length_view, view_fits}
use Rattle.view.specs.Steps.{meets_refused, view_written}
use Rattle.view.proofs.write_view.Goals as goal
use Rattle.view.proofs.write_view.Goals.{After-put_events-k}

-- how many events are seen
few : (c : After-put_events-k) → c.put_events-k.result ≤ 40
few c = let s = state_of c.args.r.now in
    omega (arith, c.put_events-k.ensures.value, length_view c.args.caller s, view_fits c.args.caller s c.requires.0.readable)

pub fit-requires : goal.fit-requires
fit-requires c =
    let whole = lies_asked c.requires.0 in
    record { valid = whole.0; lie = whole.1 }

pub returns-then-not-fit : goal.returns-then-not-fit
unfolding window_list
returns-then-not-fit c = let a = c.args in
    let whole = meets_refused (viewed_unfit a.caller (state_of a.r.now) a.out.now (c.fit.ensures ∙ c.if-not-fit.true)) refl in
    record { value = whole.0; out_after = whole.1 }

pub overflow_mul-result : goal.overflow_mul-result
overflow_mul-result c = omega (arith, few (goal.at.overflow_mul-result c).After-put_events-k)

pub overflow_add-result : goal.overflow_add-result
overflow_add-result c = omega (arith, few (goal.at.overflow_add-result c).After-put_events-k)

pub returns : goal.returns
unfolding window_list
returns c = let a = c.args in
    let whole = view_written a.caller (state_of a.r.now) c.requires.0.readable a.out.now c.requires.1 (c.fit.ensures ∙ c.if-not-fit.false)
    c.put_events-k.ensures.value
    (c.put_u16.ensures ∙ ap (λ o. sets o 0 (bytes 2 c.put_events-k.result)) c.put_events-k.ensures.out_after) in
    record { value = whole.0; out_after = whole.1 }
