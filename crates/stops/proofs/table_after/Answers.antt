-- `stops::table_after` meets its contract: 10 first, then a refused reading answers its number, and what was read is worked. Assumes nothing.
use mathlib.Core.Path.{sym, ◌∙◌}
use native.Mathlib.Omega.{arith}
use Rattle.std.proofs.lemmas.Result.{err_from_is_err_and}
use Rattle.ticket.proofs.Content.{read_valid}
use Rattle.stops.proofs.After.{after_short}
use Rattle.stops.proofs.Steps.{ticket_misread, ticket_worked}
use Rattle.stops.proofs.table_after.Goals as goal

pub returns-then-out-lt-OUTPUT : goal.returns-then-out-lt-OUTPUT
returns-then-out-lt-OUTPUT c = let a = c.args in
    sym (after_short a.ticket.now a.stops a.out.now (omega arith))

pub returns-in_err-read_ticket : goal.returns-in_err-read_ticket
returns-in_err-read_ticket c = let a = c.args in
    let p = err_from_is_err_and c.from_residual.result c.from_residual.ensures.1 in
    rw (p.1, p.2) (ticket_misread a.ticket.now a.stops a.out.now (omega arith) c.in_err-read_ticket.ensures.value)

pub work-requires : goal.work-requires
work-requires c = (read_valid c.args.ticket.now c.in_ok-read_ticket.ensures.value (λ i. omega (arith, c.type_inv.ticket i)), omega arith)

pub returns : goal.returns
returns c = let a = c.args in
    c.work.ensures ∙ ticket_worked a.ticket.now a.stops a.out.now (omega arith) c.in_ok-read_ticket.ensures.value
