-- `reading::read_ticket` meets its contract. What comes after the ticket is what its size leaves. Assumes nothing.
use mathlib.Core.Path.{ap}
use native.Mathlib.Omega.{arith}
use Rattle.temporal.specs.Run.{Valid}
use Rattle.ticket.specs.Format.{size, read_ticket}
use Rattle.ticket.specs.Stored.{stored}
use Rattle.ticket.specs.Writer.{write_ticket}
use Rattle.ticket.specs.declared.ReadTicket.{ReadTicket}
use Rattle.ticket.proofs.Refusals.{was_ok}
use Rattle.ticket.proofs.RoundTrip.{ticket_back, length_ticket}
use Rattle.reading.specs.Parts.{read_of}
use Rattle.reading.specs.Whole.{room, whole_trailing, whole_done}
use borrow.Author.Rules.{rules}
use Rattle.reading.proofs.read_ticket.Goals as goal

pub returns-then-read-s-clause-value : goal.returns-then-read-s-clause-value
returns-then-read-s-clause-value c = let s = c.args.s.now in
    let (t, u, q, same) = was_ok (read_of 0) (read_ticket s) c.in_ok-read.ensures in
    whole_trailing write_ticket Valid read_ticket ticket_back size (λ a v. length_ticket a) stored s (λ i. search rules) t u q
    (omega (arith, ap (λ (x : ReadTicket). x.next) same))

pub returns-clause-value : goal.returns-clause-value
returns-clause-value c = let s = c.args.s.now in
    let (t, u, q, same) = was_ok (read_of 0) (read_ticket s) c.in_ok-read.ensures in
    rw same
    (whole_done write_ticket Valid read_ticket ticket_back size (λ a v. length_ticket a) stored s (λ i. search rules) t u q
    (omega (arith, ap (λ (x : ReadTicket). x.next) same)))

pub returns-clause-past : goal.returns-clause-past
returns-clause-past c = let s = c.args.s.now in
    let (t, u, q, same) = was_ok (read_of 0) (read_ticket s) c.in_ok-read.ensures in
    rw same
    (omega (arith, ap (λ (x : ReadTicket). x.next) same, room write_ticket Valid read_ticket ticket_back size (λ a v. length_ticket a) stored s (λ i. search rules) t u q))
