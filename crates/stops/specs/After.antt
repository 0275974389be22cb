-- The table after some stops, on bytes (02, change 3), as a function of all that the call is lent: its number, and what the output holds afterwards.
-- The bytes are `ticket`'s, the rows temporal's, the entries `closure`'s. What the entries are is proved in Meant.
use Rattle.std.specs.Prelude.{ℕ, ◌+◌, ◌*◌, min, cond, List, ◌++◌, leb, ℤ, length, drop}
use Rattle.temporal.specs.Ticket.{Ticket, events}
use Rattle.temporal.specs.Distance.{consistent}
use Rattle.temporal.specs.Table.{rows}
use Rattle.ticket.specs.Parser.{Out, number, wholly}
use Rattle.ticket.specs.Format.{read_ticket}
use Rattle.closure.specs.Matrix.{shown}
use Rattle.closure.specs.Start.{first_entries}
use Rattle.closure.specs.Stops.{after}

-- how many stops are taken: there are n + 1
abbrev pub taken : Ticket → ℕ → ℕ
taken k s = min s (events k + 1)

-- the working entry from i to j after the first s stops, as the output says it
unfoldable pub working_at : Ticket → ℕ → ℕ → ℕ → ℤ
working_at k s i j = shown (after (events k) (first_entries k) (taken k s) i j)

-- the working entries, row 0 first, and what the output holds beyond them
abbrev pub working : Ticket → ℕ → List ℤ → List ℤ
working k s out = rows (events k + 1) (events k + 1) (working_at k s) ++ drop ((events k + 1) * (events k + 1)) out

-- of a ticket that was read: "on a ticket with a schedule", and "all refusals stay as they are"
unfoldable pub worked : Ticket → ℕ → List ℤ → ℕ × List ℤ
worked k s out = cond (consistent k) (0, working k s out) (9, out)

-- a reading that is refused answers the number of its cause
abbrev pub after_reading : ℕ → List ℤ → Out Ticket → ℕ × List ℤ
after_reading s out (Out.got k rest) = worked k s out
after_reading s out (Out.refused cause) = (number cause, out)

-- the call: 10 is tested first, then the ticket is read, to its end
unfoldable pub table_after : List ℕ → ℕ → List ℤ → ℕ × List ℤ
table_after ticket s out = cond (leb 1681 (length out)) (after_reading s out (wholly read_ticket ticket)) (10, out)
