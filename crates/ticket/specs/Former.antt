-- A record in the layout before change 5 of 02, with one number for all devices after its windows, is refused: where its number is not 5 for the
-- layout, and otherwise for its end, since the number stands where that of the devices does. Assumes nothing.
use Rattle.std.specs.Prelude.{ℕ, length}
use mathlib.Core.List.{List, ◌++◌}
use Rattle.temporal.specs.Ticket.{Ticket}
use Rattle.ticket.specs.Format.{Entry}
use Rattle.ticket.specs.Writer.{bytes, each, write_ticket, write_window}

-- The ticket, the windows with their flags, the number.
abbrev pub former_bytes : Ticket → List Entry → ℕ → List ℕ
former_bytes t es k = write_ticket t ++ (bytes 2 (length t.owners) ++ (each write_window es ++ bytes 2 k))
