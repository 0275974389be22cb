-- A ticket multiplied by q: its horizon and all its bounds. Its ticks are the grid of q-th ticks, so its fit sets are those of the grid (`fine_fit`); and
-- the fit sets of the ticket, multiplied, are among them, as wide (`scaled_fit`, `total_scaled`).
use Rattle.std.specs.Prelude.{List, map, ℕ, ◌*◌, pos, ◌*ℤ◌}
use Rattle.temporal.specs.Ticket.{Rule, Ticket, Window}
use Rattle.rounding.specs.Grid.{scale_window}

-- ---- the definitions

-- a rule's bound; its points stay
abbrev pub scale_rule : ℕ → Rule → Rule
scale_rule q r = record { from = r.from; to = r.to; bound = pos q *ℤ r.bound }

-- horizon and bounds; the owners stay
abbrev pub scale : ℕ → Ticket → Ticket
scale q k = record { horizon = q * k.horizon; owners = k.owners; rules = map (scale_rule q) k.rules }

abbrev pub scale_windows : ℕ → List Window → List Window
scale_windows q ws = map (scale_window q) ws
