-- What 02's change 2 says of the call, of any bytes: it is refused exactly where a cause applies, under the number of the first (`reason_refusal`), with
-- length 0 and the output as it was (`reason_zeros`), and never with 9 (`reason_not_nine`); otherwise it prints the ring (`reason_printed`), from whose text
-- numbers and bounds are read back (`reason_reads`). So a ticket that is read, with its lists, gets the ring or 17 and never both (`ring_or_schedule`).
-- Rests on Reasoning, Reading and Size, and on `rings` for what the ring is.
use Rattle.std.specs.Prelude.{◌≡◌, true, List, ℕ, ◌≤◌, ◌<◌, length}
use Rattle.temporal.specs.Ticket.{Ticket, Schedule, events}
use Rattle.ticket.specs.Parser.{Cause, number, refused, wholly}
use Rattle.ticket.specs.Format.{read_ticket}
use Rattle.ticket.specs.Writing.{over}
use Rattle.ticket.specs.Content.{HoldsTicket}
use Rattle.names.specs.Names.{well_formed}
use Rattle.rings.specs.Printed.{Printed}
use Rattle.reasons.specs.Text.{ring_text}
use Rattle.reasons.specs.Reasoning.{Outcome}

-- both lists have the layout
pub record Listed (k : Ticket) (labels roster : List ℕ) : Type 0 where
  pub labelled : well_formed labels (events k) ≡ true
  pub known : well_formed roster 5 ≡ true

-- x is the number of the first cause to refuse: 10, then 1 to 8 as the ticket is read, then 16, then 17
pub data Unexplained (ticket labels roster out : List ℕ) (x : ℕ) : Type 0 where
  short : x ≡ 10 → length out < 2200 → Unexplained ticket labels roster out x
  unread : (c : Cause) → x ≡ number c → 2200 ≤ length out → wholly read_ticket ticket ≡ refused c → Unexplained ticket labels roster out x
  unlisted : (k : Ticket) → x ≡ 16 → 2200 ≤ length out → HoldsTicket ticket k → ¬ Listed k labels roster → Unexplained ticket labels roster out x
  possible : (k : Ticket) → x ≡ 17 → 2200 ≤ length out → HoldsTicket ticket k → Listed k labels roster → (ts : List ℕ) → Schedule k ts → Unexplained ticket labels roster out x

-- the ticket k has no schedule, and the ring of rules that 02 asks for stands at the start of the output, with nothing else written
pub record Explained (ticket labels roster out : List ℕ) (o : Outcome) (k : Ticket) (rules : List ℕ) : Type 0 where
  pub room : 2200 ≤ length out
  pub holds : HoldsTicket ticket k
  pub lists : Listed k labels roster
  pub none : (ts : List ℕ) → ¬ Schedule k ts
  pub printed : Printed k rules
  pub number_is : o.number ≡ 0
  pub length_is : o.length ≡ length (ring_text k labels roster rules)
  pub fits : o.length ≤ 2200
  pub out_is : o.out ≡ over (ring_text k labels roster rules) out
