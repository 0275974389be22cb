-- `mend::mend` meets its contract: 10 first, then a refused reading answers its number, and what was read is mended.
use Rattle.std.proofs.Common.{refl, ap, arith}
use Rattle.ticket.proofs.Content.{read_valid}
use Rattle.ticket.proofs.Refusals.{passed_on}
use Rattle.mending.proofs.Mending.{mending_short_out, mending_short_list}
use Rattle.mend.specs.Returned.{told}
use Rattle.mend.specs.Steps.{meets_refused, ticket_misread, ticket_mended}
use Rattle.mend.proofs.mend.Goals as goal

pub returns-then-out-lt-TICKET_BYTES : goal.returns-then-out-lt-TICKET_BYTES
returns-then-out-lt-TICKET_BYTES c = let a = c.args in
    let whole = meets_refused (mending_short_out a.ticket.now a.out.now a.list.now (omega arith)) refl in
    record { value = whole.0; out_after = whole.1.0; list_after = whole.1.1 }

pub returns-then-list-lt-LIST_BYTES : goal.returns-then-list-lt-LIST_BYTES
returns-then-list-lt-LIST_BYTES c = let a = c.args in
    let whole = meets_refused (mending_short_list a.ticket.now a.out.now a.list.now (omega arith) (omega arith)) refl in
    record { value = whole.0; out_after = whole.1.0; list_after = whole.1.1 }

pub returns-in_err-t : goal.returns-in_err-t
returns-in_err-t c = let a = c.args in
    let whole = ticket_misread a.ticket.now a.out.now a.list.now (omega arith) (omega arith) c.in_err-t.ensures.value
    (ap told (passed_on c.from_residual.result c.from_residual.ensures.1)) in
    record { value = whole.0; out_after = whole.1.0; list_after = whole.1.1 }

pub write_mended-requires : goal.write_mended-requires
write_mended-requires c = (read_valid c.args.ticket.now c.in_ok-t.ensures.value (λ i. omega (arith, c.type_inv.ticket i)), omega arith, omega arith)

pub returns : goal.returns
returns c = let a = c.args in
    let w = c.write_mended.ensures in
    let whole = ticket_mended a.ticket.now a.out.now a.list.now (omega arith) (omega arith) c.in_ok-t.ensures.value (w.value, (w.out_after, w.list_after)) in
    record { value = whole.0; out_after = whole.1.0; list_after = whole.1.1 }
