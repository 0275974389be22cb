-- Windows on a finer grid (02, change 10): every time is a multiple of a q-th tick and is counted in q-th parts, q from 1 up. Definitions only.
-- A time below 0 cannot be written: "all choices on that grid lie in 0 to H" leaves no window room for one.
use Rattle.std.specs.Prelude.{◌≡◌, not, List, ℕ, ◌*◌, ◌≤◌, T, pos, ◌*ℤ◌, length}
use Rattle.temporal.specs.Lists.{All}
use Rattle.temporal.specs.Bound.{AtMost}
use Rattle.temporal.specs.Ticket.{Rule, Ticket, events, time, Window, window_of, Ordered, Choice, total}
use Rattle.temporal.specs.Plan.{State, Commitment}
use Rattle.temporal.specs.Run.{Event, is_committed, said_window}

-- a time for each event that lies "in 0 to H", so that they "keep every rule": H ticks are q times H parts, and so is every bound
pub record FineSchedule (q : ℕ) (k : Ticket) (ts : List ℕ) : Type 0 where
  pub count : length ts ≡ events k
  pub inside : All (λ t. t ≤ q * k.horizon) ts
  pub obeys : All (λ (r : Rule). AtMost (time ts r.from) (time ts r.to) (pos q *ℤ r.bound)) k.rules

-- "fit windows whose ends are multiples of a q-th tick, fit meaning that all choices on that grid lie in 0 to H and keep every rule"
pub record FineFit (q : ℕ) (k : Ticket) (ws : List Window) : Type 0 where
  pub count : length ws ≡ events k
  pub ordered : Ordered ws
  pub every : (ts : List ℕ) → Choice ws ts → FineSchedule q k ts

-- a window of whole ticks, counted in q-th parts
abbrev pub scale_window : ℕ → Window → Window
scale_window q w = record { opens = q * w.opens; closes = q * w.closes }

-- the sets on the grid that a commitment allows, as `Allowed` of `temporal` says it of whole ticks: they are fit, a committed event has the window
-- said, and a free one's contains its former one
pub record FineAllowed (q : ℕ) (k : Ticket) (start : State) (done : List Commitment) (former ws : List Window) : Type 0 where
  pub fit : FineFit q k ws
  pub kept : (p : ℕ) → Event k p → T (is_committed start done p) → window_of ws p ≡ scale_window q (said_window start done p)
  pub grown : (p : ℕ) → Event k p → T (not (is_committed start done p))
      → ((window_of ws p).opens ≤ (scale_window q (window_of former p)).opens) × ((scale_window q (window_of former p)).closes ≤ (window_of ws p).closes)

-- where P q holds of the sets on the grid of q-th ticks: "q times our plan's weighted total is not exceeded by their total counted in q-th parts".
-- Of windows counted in q-th parts `total` counts these, with the same weights. And one of the sets has that total, so on no grid the most is less
pub record NoneWider (k : Ticket) (most : ℕ) (P : ℕ → List Window → Type 0) : Type 0 where
  pub none : (q : ℕ) → 1 ≤ q → (ws : List Window) → P q ws → total k ws ≤ q * most
  pub one : (q : ℕ) → (ws : List Window) × P q ws × (total k ws ≡ q * most)
