-- The weights of 02, change 7: what they are (`weights_are`), what the total counts (`total_widths`), and what is chosen where a tick counts 0. In a
-- ticket with only database events a choice is the earliest, or the latest, of all the sets from which it is made (`database_earliest`, `database_latest`),
-- so either plan is that of all fit sets (`database_plan`, `database_plan_latest`), the plan at the earliest times (`database_times`). In every ticket a
-- database event's window is a tick in either plan (`database_tick`, `database_tick_latest`). Rests on LatestRun.
use Rattle.std.specs.Prelude.{◌≡◌, cond, eqb}
use mathlib.Core.List.{List, [], ◌∷◌}
use Prim.Native.Nat.{ℕ, ◌+◌, ◌-◌}
use Rattle.temporal.specs.Lists.{All}
use Rattle.temporal.specs.Ticket.{Ticket, Window}

-- ---- what the total counts

-- close minus open, summed over the windows of the owner o
abbrev pub widths : ℕ → List ℕ → List Window → ℕ
widths o [] ws = 0
widths o (owner ∷ owners) [] = 0
widths o (owner ∷ owners) (w ∷ ws) = cond (eqb owner o) (w.closes - w.opens) 0 + widths o owners ws

-- ---- only database events

abbrev pub OnlyDatabase : Ticket → Type 0
OnlyDatabase k = All (λ o. o ≡ 4) k.owners
