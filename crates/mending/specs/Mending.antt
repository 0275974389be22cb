-- Mending on bytes (02, change 6), as a function of all that the call is lent: what is returned, and what the two outputs hold afterwards.
-- The bytes are `ticket`'s; what is kept and dropped is Selection's.
use Rattle.std.specs.Prelude.{ℕ, Bool, cond, ◌&&◌, List, ◌++◌, leb, length}
use Rattle.temporal.specs.Ticket.{Ticket}
use Rattle.ticket.specs.Parser.{number, Out, wholly}
use Rattle.ticket.specs.Format.{read_ticket}
use Rattle.ticket.specs.Writer.{bytes, each, write_ticket}
use Rattle.ticket.specs.Writing.{over}
use Rattle.mending.specs.Selection.{mended, dropped}

-- "the list: a 2-byte count, then the dropped rules' numbers, 2 bytes each"
unfoldable pub write_numbers : List ℕ → List ℕ
write_numbers numbers = bytes 2 (length numbers) ++ each (bytes 2) numbers

-- what the call returns, its number and the lengths of the mended ticket and of the list, and what the two lent outputs hold afterwards; it borrows no scratch
pub record Outcome : Type 0 where
  pub number : ℕ
  pub length : ℕ
  pub listed : ℕ
  pub out : List ℕ
  pub list : List ℕ

-- a refusal returns its number and zeros, and leaves both outputs as they were
abbrev pub refusing : ℕ → (out list : List ℕ) → Outcome
refusing r out list = record { number = r; length = 0; listed = 0; out = out; list = list }

-- these bytes stand at the start of the outputs, and what lies after them is as it was
abbrev pub writing : (ticket numbers out list : List ℕ) → Outcome
writing ticket numbers out list = record { number = 0; length = length ticket; listed = length numbers; out = over ticket out; list = over numbers list }

-- of a ticket that was read: "writes the ticket with the kept rules and, to a second output, the list"
abbrev pub accepting : Ticket → (out list : List ℕ) → Outcome
accepting k out list = writing (write_ticket (mended k)) (write_numbers (dropped k)) out list

-- "malformed tickets meet 1 to 8 as before": a reading that is refused answers the number of its cause
abbrev pub after_reading : (out list : List ℕ) → Out Ticket → Outcome
after_reading out list (Out.got k rest) = accepting k out list
after_reading out list (Out.refused cause) = refusing (number cause) out list

-- both outputs hold the longest that is written to them
unfoldable pub room : (out list : List ℕ) → Bool
room out list = leb 1584 (length out) && leb 514 (length list)

-- the call: 10 is tested first, then the ticket is read, to its end
unfoldable pub mending : (ticket out list : List ℕ) → Outcome
mending ticket out list = cond (room out list) (after_reading out list (wholly read_ticket ticket)) (refusing 10 out list)
