-- `reason::reason` meets its contract: 10 first, then a refused reading answers its number, and what was read is explained. Assumes nothing.
use Rattle.std.proofs.Common.{refl, ap, arith}
use Rattle.ticket.proofs.Content.{read_valid}
use Rattle.ticket.proofs.Refusals.{passed_on}
use Rattle.reasons.proofs.Reasoning.{reasoning_short}
use Rattle.reason.specs.Returned.{told}
use Rattle.reason.specs.Steps.{meets_refused, ticket_misread, ticket_meets}
use Rattle.reason.proofs.reason.Goals as goal

pub returns-then-out-lt-TEXT_BYTES : goal.returns-then-out-lt-TEXT_BYTES
returns-then-out-lt-TEXT_BYTES c =
    let a = c.args in
    let whole = meets_refused (reasoning_short a.ticket.now a.labels.now a.roster.now a.out.now (omega arith)) refl in
    record { value = whole.0; out_after = whole.1 }

pub returns-in_err-t : goal.returns-in_err-t
returns-in_err-t c =
    let a = c.args in
    let whole = ticket_misread a.ticket.now a.labels.now a.roster.now a.out.now (omega arith) c.in_err-t.ensures.value
    (ap told (passed_on c.from_residual.result c.from_residual.ensures.1)) in
    record { value = whole.0; out_after = whole.1 }

pub explain-requires : goal.explain-requires
explain-requires c = (read_valid c.args.ticket.now c.in_ok-t.ensures.value (λ i. omega (arith, c.type_inv.ticket i)), omega arith)

pub returns : goal.returns
returns c =
    let a = c.args in
    let whole = ticket_meets a.ticket.now a.labels.now a.roster.now a.out.now (omega arith) c.in_ok-t.ensures.value (c.explain.ensures.value, c.explain.ensures.out_after) in
    record { value = whole.0; out_after = whole.1 }
