-- What holds of the content of a ticket's struct, and of a ticket just read. Rests on RoundTrip and Agree.
use Rattle.std.specs.Prelude.{ℕ, ◌≤◌, ◌≡◌, List, []}
use Rattle.temporal.specs.Ticket as temporal
use Rattle.temporal.specs.Ticket.{events}
use Rattle.ticket.specs.Parser.{got, wholly}
use Rattle.ticket.specs.Format.{read_ticket}
use Rattle.ticket.specs.declared.Ticket.{Ticket}

-- the bytes hold the ticket k, and nothing after it
abbrev pub HoldsTicket : List ℕ → temporal.Ticket → Type 0
HoldsTicket bytes k = wholly read_ticket bytes ≡ got k []

-- the limits of a valid ticket, by its struct
pub record Limits (t : Ticket) : Type 0 where
  pub few : t.events ≤ 40
  pub most : t.rules ≤ 256
  pub high : t.horizon ≤ 1000000
