-- Laws of the distance: it is 0 from a point to itself, and between -h and h. And when a table of numbers is the table of distances:
-- it obeys the rules and the triangle inequality, and no schedule exceeds it. Entries are stored higher by `base`.
use Rattle.std.specs.Prelude.{◌≡◌, List}
use Prim.Native.Nat.{ℕ, ◌+◌, ◌≤◌}
use Rattle.temporal.specs.Lists.{All}
use Rattle.temporal.specs.Bound.{above, below}
use Rattle.temporal.specs.Ticket.{Rule, Ticket, events, time, Schedule}

-- ---- a table of distances

pub record IsTable (k : Ticket) (base : ℕ) (d : ℕ → ℕ → ℕ) : Type 0 where
  pub self : (i : ℕ) → i ≤ events k → d i i ≡ base
  pub triangle : (i j p : ℕ) → i ≤ events k → j ≤ events k → p ≤ events k → d i j + base ≤ d i p + d p j
  pub upper : (p : ℕ) → p ≤ events k → d 0 p ≤ base + k.horizon
  pub lower : (p : ℕ) → p ≤ events k → d p 0 ≤ base
  pub obeys : All (λ (r : Rule). d r.from r.to + below r.bound ≤ base + above r.bound) k.rules
  pub sound : (ts : List ℕ) → Schedule k ts → (i j : ℕ) → i ≤ events k → j ≤ events k → time ts j + base ≤ time ts i + d i j

-- a rule's points are points of the ticket
abbrev pub Points : Ticket → Type 0
Points k = All (λ (r : Rule). (r.from ≤ events k) × (r.to ≤ events k)) k.rules
