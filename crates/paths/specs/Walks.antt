-- Walks along rules: joined and cut, their sums without a sign, and that no schedule has more between two points than a walk's sum.
-- And what holds of every rule of a ticket, the unwritten ones too, with the laws of the numbers.
use Rattle.std.specs.Prelude.{ℕ, ◌+◌}
use mathlib.Core.List.{List, [], ◌∷◌}
use Rattle.temporal.specs.Bound.{above, below}
use Rattle.temporal.specs.Ticket.{Ticket}
use Rattle.paths.specs.Rules.{bound_of}

-- ---- sums without a sign

-- the sum of the bounds above 0
unfoldable pub ups : Ticket → List ℕ → ℕ
ups k [] = 0
ups k (e ∷ es) = above (bound_of k e) + ups k es

-- what the bounds below 0 take away
unfoldable pub downs : Ticket → List ℕ → ℕ
downs k [] = 0
downs k (e ∷ es) = below (bound_of k e) + downs k es
