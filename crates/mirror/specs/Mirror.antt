-- The mirror of a ticket: each time t replaced by the horizon minus t (02, change 1). Mirroring twice gives everything back; the schedules and
-- the fit sets of the mirror are the mirrored ones, as wide as they were. Rests on temporal's Ticket, Bound and Ends.
use Rattle.std.specs.Prelude.{List, map, ◌≢◌, ℕ, zero, suc, ◌-◌, ◌≤◌, ℤ, pos, ◌+ℤ◌, ◌-ℤ◌}
use Rattle.temporal.specs.Lists.{All}
use Rattle.temporal.specs.Ticket.{Rule, Ticket, events, Window}

-- ---- the definitions

-- "Between events" the bound c stays c; of "0 to j" it turns into c - H, of "j to 0" into c + H. (A rule from 0 to 0 speaks of no event.)
unfoldable pub mirror_bound : (h from to : ℕ) → ℤ → ℤ
mirror_bound h zero zero c = c
mirror_bound h zero (suc j) c = c -ℤ pos h
mirror_bound h (suc i) zero c = c +ℤ pos h
mirror_bound h (suc i) (suc j) c = c

-- "i to j" turns into "j to i"
abbrev pub mirror_rule : ℕ → Rule → Rule
mirror_rule h r = record { from = r.to; to = r.from; bound = mirror_bound h r.from r.to r.bound }

-- horizon and owners as they are
abbrev pub mirror : Ticket → Ticket
mirror k = record { horizon = k.horizon; owners = k.owners; rules = map (mirror_rule k.horizon) k.rules }

-- "replace each time t by H - t"
abbrev pub mirror_ticks : ℕ → List ℕ → List ℕ
mirror_ticks h ts = map (λ t. h - t) ts

-- the close turns into the open, the open into the close
abbrev pub mirror_window : ℕ → Window → Window
mirror_window h w = record { opens = h - w.closes; closes = h - w.opens }

-- window by window
abbrev pub mirror_windows : ℕ → List Window → List Window
mirror_windows h ws = map (mirror_window h) ws

-- the points of a rule are points of a ticket of n events, and differ
abbrev pub ProperRule : ℕ → Rule → Type 0
ProperRule n r = (r.from ≤ n) × (r.to ≤ n) × (r.from ≢ r.to)

-- so it is for every rule, as reading requires: a point past the events is no point, and has no mirror
abbrev pub Proper : Ticket → Type 0
Proper k = All (ProperRule (events k)) k.rules
