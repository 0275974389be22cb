-- The ring that is printed, for a ticket without a schedule: it is a ring with the fewest rules possible, it starts at its lowest number, and
-- every other such ring comes after it in dictionary order (`ring_printed`); no other list is so (`printed_ring`). Its points and its numbers
-- are all different, and it has at most n + 1 of them.
use Rattle.std.specs.Prelude.{◌≡◌, List, ℕ, ◌≤◌, length}
use Rattle.temporal.specs.Ticket.{Ticket}
use Rattle.rings.specs.Order.{Before}
use Rattle.rings.specs.Turns.{Lowest}
use Rattle.rings.specs.Ring.{Ring}

-- what 02 says of the ring that is printed
pub record Printed (k : Ticket) (es : List ℕ) : Type 0 where
  pub a_ring : Ring k es
  pub shortest : (fs : List ℕ) → Ring k fs → length es ≤ length fs
  pub lowest : Lowest es
  pub first : (fs : List ℕ) → Ring k fs → length fs ≡ length es → Lowest fs → Before es fs
