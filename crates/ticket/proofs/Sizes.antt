-- The most bytes that a ticket takes, and a record. Assumes nothing.
use Rattle.std.specs.Prelude.{◌≤◌, length}
use Rattle.std.proofs.Common.{arith}
use Rattle.temporal.specs.Ticket.{Ticket}
use Rattle.temporal.specs.Plan.{State}
use Rattle.temporal.specs.Run.{Valid, Readable}
use Rattle.ticket.specs.Writer.{write_ticket, write_state}
use Rattle.ticket.proofs.RoundTrip.{length_ticket, length_readable}

-- TICKET_BYTES is room for every valid ticket.
pub ticket_bytes : (t : Ticket) → Valid t → length (write_ticket t) ≤ 1584
ticket_bytes t g = omega (arith, length_ticket t, g.events_limit, g.rules_limit)

-- RECORD_BYTES is room for every readable state.
pub record_bytes : (x : State) → Readable x → length (write_state x) ≤ 1958
record_bytes x g = omega (arith, length_readable x g, g.windows_count, g.valid.events_limit, g.valid.rules_limit)
