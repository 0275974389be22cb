-- `harness::harness_rewrite_ticket` meets its contract: what is read without a cause is written back as it came. Assumes nothing.
use Rattle.std.proofs.Common.{ap, ◌∙◌, arith, rules}
use Rattle.std.specs.Prelude.{[]}
use Rattle.ticket.specs.Format.{read_ticket}
use Rattle.ticket.specs.Writing.{writing}
use Rattle.harness.specs.Rewriting.{narrow, rewriting_short, rewriting_again, ticket_refused, ticket_again}
use Rattle.harness.proofs.harness_rewrite_ticket.Goals as goal

pub returns-then-out-lt-TICKET_BYTES : goal.returns-then-out-lt-TICKET_BYTES
returns-then-out-lt-TICKET_BYTES c = rw (rewriting_short 1584 read_ticket c.args.ticket.now c.args.out.now c.if-out-lt-TICKET_BYTES.true) (search rules)

pub returns-in-Err : goal.returns-in-Err
returns-in-Err c = rw (ticket_refused c.args.ticket.now c.args.out.now c.if-out-lt-TICKET_BYTES.false c.in-Err.ensures.value) (search rules)

pub returns-in-Ok : goal.returns-in-Ok
returns-in-Ok c = let bytes = c.args.ticket.now in
    let out = c.args.out.now in
    let w = c.write_ticket-written in
    let g = ticket_again bytes out (λ i. omega (arith, c.type_inv.ticket i)) c.if-out-lt-TICKET_BYTES.false c.in-Ok.ensures.value in
    let whole = rewriting_again 1584 read_ticket bytes out (writing out c.in-Ok.t []) w.result w.new.out c.narrow.result g.0 g.1 w.ensures.value w.ensures.out_after (c.narrow.ensures ∙ ap narrow c.unwrap_or.ensures) in
    record { value = c.answer_number.ensures ∙ whole.0; out_after = whole.1.0; size_after = whole.1.1 }
