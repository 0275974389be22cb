-- `write_mended` meets its contract: the mended ticket and the numbers are stored at the start of the outputs.
use native.Mathlib.Omega.{arith}
use Prim.Native.Nat.{◌≤◌}
use Rattle.ticket.specs.Writing.{content}
use Rattle.ticket.specs.Content.{Limits}
use Rattle.mend.specs.Steps.{mended_limits, dropped_most, mended_written}
use Rattle.mend.proofs.write_mended.Goals as goal
use Rattle.mend.proofs.write_mended.Goals.{After-mend_ticket-m}

-- the mended ticket is within the limits, and few rules were dropped
few : (c : After-mend_ticket-m) → Limits c.mend_ticket-m.result.ticket × (c.mend_ticket-m.result.dropped ≤ 256)
few c = let k = content c.args.t in
    let m = c.mend_ticket-m in
    (mended_limits k c.requires.0 m.result m.ensures.ticket_value m.ensures.numbers_value, dropped_most k c.requires.0 m.result m.ensures.ticket_value m.ensures.numbers_value)

pub put_ticket-requires : goal.put_ticket-requires
put_ticket-requires c = ((few (goal.at.put_ticket-requires c).After-mend_ticket-m).0.few, (few (goal.at.put_ticket-requires c).After-mend_ticket-m).0.most, c.requires.1)

pub put_numbers-requires : goal.put_numbers-requires
put_numbers-requires c = ((few (goal.at.put_numbers-requires c).After-mend_ticket-m).1, c.requires.2)

pub overflow_add-result : goal.overflow_add-result
overflow_add-result c = omega (arith, (few (goal.at.overflow_add-result c).After-mend_ticket-m).0.few)

pub overflow_mul-result : goal.overflow_mul-result
overflow_mul-result c = omega (arith, (few (goal.at.overflow_mul-result c).After-mend_ticket-m).0.most)

pub overflow_add-result-2 : goal.overflow_add-result-2
overflow_add-result-2 c = omega (arith, (few (goal.at.overflow_add-result-2 c).After-mend_ticket-m).0.few, (few (goal.at.overflow_add-result-2 c).After-mend_ticket-m).0.most)

pub overflow_mul-result-2 : goal.overflow_mul-result-2
overflow_mul-result-2 c = omega (arith, (few (goal.at.overflow_mul-result-2 c).After-mend_ticket-m).1)

pub overflow_add-result-3 : goal.overflow_add-result-3
overflow_add-result-3 c = omega (arith, (few (goal.at.overflow_add-result-3 c).After-mend_ticket-m).1)

pub returns : goal.returns
returns c = let a = c.args in
    let m = c.mend_ticket-m in
    let whole = mended_written (content a.t) c.requires.0 m.result m.ensures.ticket_value m.ensures.numbers_value a.out.now a.list.now c.requires.1 c.requires.2
    c.put_ticket.ensures c.put_numbers.ensures in
    record { value = whole.0; out_after = whole.1.0; list_after = whole.1.1 }
