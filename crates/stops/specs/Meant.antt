-- What the numbers in the output are: on a ticket with a schedule each is the sum of the shortest path by the stops taken, or the largest number of all where
-- there is no such path (02, change 3). Rests on closure's ShortestPaths.
use Rattle.std.specs.Prelude.{ℕ, ◌≡◌, ◌≢◌, ℤ}
use Rattle.temporal.specs.Ticket.{Ticket, events}
use Rattle.paths.specs.Shortest.{Taken, Shortest, Unreached}
use Rattle.closure.specs.Matrix.{no_path}

-- the number z from i to j after the first s stops: "the shortest path, where there is one, whose inner points are stops already taken"
pub record Entry (k : Ticket) (s i j : ℕ) (z : ℤ) : Type 0 where
  pub some : z ≢ no_path → Shortest k (Taken (events k) s) i j z
  pub nothing : z ≡ no_path → Unreached k (Taken (events k) s) i j
