-- The call that prints the reason, on bytes (02, change 2), as a function of all that it is lent: what is returned, and what the output holds afterwards.
-- The bytes are `ticket`'s and `names`', the ring is `rings`', the text Text's.
use Rattle.std.specs.Prelude.{Bool, cond, ◌&&◌, List, ℕ, leb, length}
use Rattle.temporal.specs.Ticket.{Ticket, events}
use Rattle.temporal.specs.Distance.{consistent}
use Rattle.ticket.specs.Parser.{Out, number, wholly}
use Rattle.ticket.specs.Format.{read_ticket}
use Rattle.ticket.specs.Writing.{over}
use Rattle.names.specs.Names.{well_formed}
use Rattle.rings.specs.Ring.{ring}
use Rattle.reasons.specs.Text.{ring_text}

-- what the call returns, and what the lent output holds afterwards; it borrows no scratch
pub record Outcome : Type 0 where
  pub number : ℕ
  pub length : ℕ
  pub out : List ℕ

-- a refusal returns its number and zero, and leaves the output as it was
abbrev pub refusing : ℕ → List ℕ → Outcome
refusing r out = record { number = r; length = 0; out = out }

-- the text stands at the start of the output, and what lies after it is as it was
abbrev pub printing : List ℕ → List ℕ → Outcome
printing text out = record { number = 0; length = length text; out = over text out }

-- "the label list has n names and the roster five"
abbrev pub listed : Ticket → (labels roster : List ℕ) → Bool
listed k labels roster = well_formed labels (events k) && well_formed roster 5

-- of a ticket that was read: "16, a list that breaks this layout, after 8; 17, a schedule exists, after 16. A 9 becomes the printed ring here"
unfoldable pub explaining : Ticket → (labels roster out : List ℕ) → Outcome
explaining k labels roster out =
    cond (listed k labels roster)
    (cond (consistent k) (refusing 17 out) (printing (ring_text k labels roster (ring k)) out))
    (refusing 16 out)

-- a reading that is refused answers the number of its cause
abbrev pub after_reading : (labels roster out : List ℕ) → Out Ticket → Outcome
after_reading labels roster out (Out.got k rest) = explaining k labels roster out
after_reading labels roster out (Out.refused cause) = refusing (number cause) out

-- the call: 10 is tested first, "into at least 2,200 bytes", then the ticket is read, to its end
unfoldable pub reasoning : (ticket labels roster out : List ℕ) → Outcome
reasoning ticket labels roster out =
    cond (leb 2200 (length out)) (after_reading labels roster out (wholly read_ticket ticket)) (refusing 10 out)
