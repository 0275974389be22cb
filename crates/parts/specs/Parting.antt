-- One device's part on bytes (02, change 8), as a function of all that the call is lent: what is returned, and what the output holds afterwards.
-- The bytes are `ticket`'s; the device's events, their part and its plan are Part's.
use Rattle.std.specs.Prelude.{ℕ, cond, List, ◌++◌, leb, length, get_or}
use Rattle.temporal.specs.Ticket.{Ticket, Window, origin}
use Rattle.temporal.specs.Distance.{consistent}
use Rattle.ticket.specs.Parser.{number, Out, wholly}
use Rattle.ticket.specs.Format.{read_ticket}
use Rattle.ticket.specs.Writer.{bytes, each, window_bytes}
use Rattle.ticket.specs.Writing.{firsts, over}
use Rattle.parts.specs.Part.{members, part_plan, part_total}

-- ---- a part as bytes

-- an event, by its number in the ticket, and its window in the plan of its device's part
pub record Numbered : Type 0 where
  pub event : ℕ
  pub window : Window

-- the device's i-th event, counted from 0
abbrev pub numbered_at : ℕ → Ticket → ℕ → Numbered
numbered_at d k i = record { event = get_or (members d k) i 0; window = get_or (part_plan d k) i origin }

-- all its events, "rising"
abbrev pub numbered : ℕ → Ticket → List Numbered
numbered d k = firsts (length (members d k)) (numbered_at d k)

-- "each event's number in a byte, open and close as in the record"
unfoldable pub write_numbered : Numbered → List ℕ
write_numbered p = window_bytes p.event p.window.opens p.window.closes

-- "A part is written as a 2-byte count, then each event's"
unfoldable pub write_part : ℕ → Ticket → List ℕ
write_part d k = bytes 2 (length (members d k)) ++ each write_numbered (numbered d k)

-- ---- the call

-- what the call returns, and what the lent output holds afterwards; it borrows no scratch
pub record Outcome : Type 0 where
  pub number : ℕ
  pub length : ℕ
  pub total : ℕ
  pub out : List ℕ

-- a refusal returns its number and zeros, and leaves the output as it was
abbrev pub refusing : ℕ → List ℕ → Outcome
refusing r out = record { number = r; length = 0; total = 0; out = out }

-- these bytes stand at the start of the output, and what lies after them is as it was
abbrev pub writing : (part : List ℕ) (total : ℕ) (out : List ℕ) → Outcome
writing part total out = record { number = 0; length = length part; total = total; out = over part out }

-- the part of device d, and its total
abbrev pub accepting : ℕ → Ticket → List ℕ → Outcome
accepting d k out = writing (write_part d k) (part_total d k) out

-- of a ticket that was read: "Impossible tickets get 9"
unfoldable pub parted : ℕ → Ticket → List ℕ → Outcome
parted d k out = cond (consistent k) (accepting d k out) (refusing 9 out)

-- a reading that is refused answers the number of its cause
abbrev pub after_reading : ℕ → List ℕ → Out Ticket → Outcome
after_reading d out (Out.got k rest) = parted d k out
after_reading d out (Out.refused cause) = refusing (number cause) out

-- the call: 10 is tested first; "a device above 4 gets 4, after 10"; then the ticket is read, to its end. 362 bytes hold the longest part.
unfoldable pub parting : (ticket : List ℕ) (device : ℕ) (out : List ℕ) → Outcome
parting ticket device out = cond (leb 362 (length out)) (cond (leb device 4) (after_reading device out (wholly read_ticket ticket)) (refusing 4 out)) (refusing 10 out)
