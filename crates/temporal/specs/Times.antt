-- What 01's closing sentences of "Network, table, plan" say of the distance: a rule "i to j: c" bounds the distance from i to j, as in source document 000
-- (`rule_distance`); and the latest and the earliest time of an event over all schedules (`latest`, `earliest`).
use Rattle.std.specs.Prelude.{◌≡◌, List, ℕ, ℤ, pos, ◌≤ℤ◌}
use Rattle.temporal.specs.Ticket.{Ticket, time, Schedule}

-- ---- "latest is D(0, i), earliest -D(i, 0)"

-- d is the time of event i in a schedule, and in none it is later
pub record Latest (k : Ticket) (i : ℕ) (d : ℤ) : Type 0 where
  pub times : List ℕ
  pub schedule : Schedule k times
  pub attained : pos (time times i) ≡ d
  pub most : (ts : List ℕ) → Schedule k ts → pos (time ts i) ≤ℤ d

-- and in none it is earlier
pub record Earliest (k : Ticket) (i : ℕ) (d : ℤ) : Type 0 where
  pub times : List ℕ
  pub schedule : Schedule k times
  pub attained : pos (time times i) ≡ d
  pub least : (ts : List ℕ) → Schedule k ts → d ≤ℤ pos (time ts i)
