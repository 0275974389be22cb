-- What the two public functions ask and leave: `Planned` for planning, `Committed` for a commitment that nothing refuses.
-- Rests on temporal's `plan` and `commit` and on ticket's `content`.
use Rattle.std.specs.Prelude.{◌≡◌, Bool, true, cond, List, ◌≢◌, ℕ, ◌+◌, ◌*◌, ◌-◌, ◌≤◌, length, get_or, set, replicate}
use Rattle.temporal.specs.Plan.{State, owner_of, raise, asking, accepted, refused, plan, commit}
use Rattle.ticket.specs.Writing.{content}
use Rattle.ticket.specs.declared.Ticket.{Ticket}
use Rattle.potentials.specs.Arrays.{window_list, flag_list, Lie, Within}

-- the state that a ticket's struct and these arrays say, with these counts
abbrev pub state_in : Ticket → List ℕ → List ℕ → List ℕ → List ℕ → State
state_in t flags opens closes counts =
    record { ticket = content t; windows = window_list t.events opens closes; flags = flag_list t.events flags; counts = counts }

-- room for the edges, and whole arrays
pub record Workspace (t : Ticket) (net opens closes : List ℕ) : Type 0 where
  pub size : 20 * t.events + 4 * t.rules ≤ length net
  pub opens_long : length opens ≡ 40
  pub closes_long : length closes ≡ 40

-- planning: the windows of the plan, or no schedule
pub record Planned (t : Ticket) (opens closes opens' closes' : List ℕ) (r : Bool) : Type 0 where
  pub answer : plan (content t) ≡ cond r (accepted (state_in t (replicate 40 0) opens' closes' (replicate 5 0))) (refused 9)
  pub lie : r ≡ true → Lie t opens' closes'
  pub opens_past : Within t.events opens opens'
  pub closes_past : Within t.events closes closes'

-- a commitment in the owner's name that nothing refuses, whatever the counts are, unless the owner's is 65,535
pub record Committed (t : Ticket) (flags opens closes flags' opens' closes' : List ℕ) (event first last : ℕ) : Type 0 where
  pub answer : (counts : List ℕ) → get_or counts (owner_of (content t) event) 0 ≢ 65535
      → commit (state_in t flags opens closes counts) (asking (owner_of (content t) event) event first last)
      ≡ accepted (state_in t flags' opens' closes' (raise counts (owner_of (content t) event)))
  pub lie : Lie t opens' closes'
  pub flags_are : flags' ≡ set flags (event - 1) 1
  pub opens_past : Within t.events opens opens'
  pub closes_past : Within t.events closes closes'
