-- The definitions at work, on bytes: P1's table of 01 before its first stop and after each of its three, and those of a ticket that has no path from 1 to 2
-- until the session start is taken, as one table: a ticket, how many stops, and the rows that the call leaves first in whatever output of 1,681 numbers or more
-- it is lent. By `working_means` each number is the shortest path by the stops taken.
use Rattle.std.specs.Prelude.{◌≡◌, List, [], ◌∷◌, ◌++◌, ℕ, ◌≤◌, ℤ, pos, length, drop}
use Rattle.temporal.specs.Ticket.{Ticket}
use Rattle.temporal.specs.Examples.{rule, minus, ticket1}
use Rattle.ticket.specs.Writer.{write_ticket}
use Rattle.closure.specs.Matrix.{no_path}
use Rattle.stops.specs.After.{table_after}

-- "0 to 2: 10" and "2 to 1: 3", the horizon 20
abbrev pub late : Ticket
late = record { horizon = 20; owners = 0 ∷ 4 ∷ []; rules = rule 0 2 (pos 10) ∷ rule 2 1 (pos 3) ∷ [] }

-- ---- the table

pub record Example : Type 0 where
  pub ticket : Ticket
  pub stops : ℕ
  pub rows : List ℤ

abbrev pub example : Ticket → ℕ → List ℤ → Example
example k s xs = record { ticket = k; stops = s; rows = xs }

abbrev pub examples : List Example
examples =
    example ticket1 0 (pos 0 ∷ pos 15 ∷ pos 20 ∷ minus 5 ∷ pos 0 ∷ pos 4 ∷ minus 8 ∷ pos 2 ∷ pos 0 ∷ [])
    ∷ example ticket1 1 (pos 0 ∷ pos 15 ∷ pos 20 ∷ minus 5 ∷ pos 0 ∷ pos 4 ∷ minus 8 ∷ pos 2 ∷ pos 0 ∷ [])
    ∷ example ticket1 2 (pos 0 ∷ pos 15 ∷ pos 19 ∷ minus 5 ∷ pos 0 ∷ pos 4 ∷ minus 8 ∷ pos 2 ∷ pos 0 ∷ [])
    ∷ example ticket1 3 (pos 0 ∷ pos 15 ∷ pos 19 ∷ minus 5 ∷ pos 0 ∷ pos 4 ∷ minus 8 ∷ pos 2 ∷ pos 0 ∷ [])
    ∷ example late 0 (pos 0 ∷ pos 20 ∷ pos 10 ∷ pos 0 ∷ pos 0 ∷ no_path ∷ pos 0 ∷ pos 3 ∷ pos 0 ∷ [])
    ∷ example late 1 (pos 0 ∷ pos 13 ∷ pos 10 ∷ pos 0 ∷ pos 0 ∷ no_path ∷ pos 0 ∷ pos 3 ∷ pos 0 ∷ [])
    ∷ example late 2 (pos 0 ∷ pos 13 ∷ pos 10 ∷ pos 0 ∷ pos 0 ∷ no_path ∷ pos 0 ∷ pos 3 ∷ pos 0 ∷ [])
    ∷ example late 3 (pos 0 ∷ pos 13 ∷ pos 10 ∷ pos 0 ∷ pos 0 ∷ pos 10 ∷ pos 0 ∷ pos 3 ∷ pos 0 ∷ [])
    ∷ []

abbrev pub Holds : Example → Type 0
Holds x = (out : List ℤ) → 1681 ≤ length out → table_after (write_ticket x.ticket) x.stops out ≡ (0, x.rows ++ drop (length x.rows) out)
