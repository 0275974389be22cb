-- `part::part` meets its contract: 10 first, then 4, then a refused reading answers its number, and of what was read the part is written.
use Rattle.std.proofs.Common.{refl, ap, arith}
use Rattle.ticket.proofs.Content.{read_valid}
use Rattle.ticket.proofs.Refusals.{passed_on}
use Rattle.parts.proofs.Parting.{parting_short, parting_unknown}
use Rattle.part.specs.Returned.{told}
use Rattle.part.specs.Steps.{meets_refused, ticket_misread, ticket_parted}
use Rattle.part.proofs.part.Goals as goal

pub returns-then-out-lt-PART_BYTES : goal.returns-then-out-lt-PART_BYTES
returns-then-out-lt-PART_BYTES c = let a = c.args in
    let whole = meets_refused (parting_short a.ticket.now a.device a.out.now (omega arith)) refl in
    record { value = whole.0; out_after = whole.1 }

pub returns-then-device-ge-DEVICES : goal.returns-then-device-ge-DEVICES
returns-then-device-ge-DEVICES c = let a = c.args in
    let whole = meets_refused (parting_unknown a.ticket.now a.device a.out.now (omega arith) (omega arith)) refl in
    record { value = whole.0; out_after = whole.1 }

pub returns-in_err-t : goal.returns-in_err-t
returns-in_err-t c = let a = c.args in
    let whole = ticket_misread a.ticket.now a.device a.out.now (omega arith) (omega arith) c.in_err-t.ensures.value
    (ap told (passed_on c.from_residual.result c.from_residual.ensures.1)) in
    record { value = whole.0; out_after = whole.1 }

pub write_part-requires : goal.write_part-requires
write_part-requires c = (read_valid c.args.ticket.now c.in_ok-t.ensures.value (λ i. omega (arith, c.type_inv.ticket i)), omega arith)

pub returns : goal.returns
returns c = let a = c.args in
    let whole = ticket_parted a.ticket.now a.device a.out.now (omega arith) (omega arith) c.in_ok-t.ensures.value (c.write_part.ensures.value, c.write_part.ensures.out_after) in
    record { value = whole.0; out_after = whole.1 }
