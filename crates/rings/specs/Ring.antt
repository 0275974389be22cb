-- Rings of rules, and the ring that is printed (02, change 2). The definitions go through all lists of numbers, as temporal's do; the laws are in the
-- files below. Rests on `paths` for the rules with their numbers and walks along them.
use Rattle.std.specs.Prelude.{Bool, ◌&&◌, List, [], ◌∷◌, ℕ, suc, ◌≤◌, leb, eqb, pos, ◌<ℤ◌, length}
use Rattle.std.specs.Int.Signed.{lt_z}
use Rattle.temporal.specs.Lists.{all, All, keep, tuples, tab}
use Rattle.temporal.specs.Ticket.{Ticket, events}
use Rattle.temporal.specs.Distance.{some?}
use Rattle.paths.specs.Rules.{size, from_of, to_of, Number, Walk, sum}
use Rattle.rings.specs.Order.{seek, first_of}
use Rattle.rings.specs.Turns.{is_lowest}

-- ---- rings

-- the point that the first rule goes from
abbrev pub start_of : Ticket → List ℕ → ℕ
start_of k [] = 0
start_of k (e ∷ es) = from_of k e

-- "a ring of rules whose bounds sum below zero"
pub record Ring (k : Ticket) (es : List ℕ) : Type 0 where
  pub some : 1 ≤ length es
  pub numbers : All (Number k) es
  pub closed : Walk k (start_of k es) es (start_of k es)
  pub negative : sum k es <ℤ pos 0

-- the same as tests
abbrev pub is_number : Ticket → ℕ → Bool
is_number k e = leb 1 e && leb e (size k)

abbrev pub is_walk : Ticket → ℕ → List ℕ → ℕ → Bool
is_walk k p [] q = eqb p q
is_walk k p (e ∷ es) q = eqb p (from_of k e) && is_walk k (to_of k e) es q

unfoldable pub is_ring : Ticket → List ℕ → Bool
is_ring k es = leb 1 (length es) && (all (is_number k) es && (is_walk k (start_of k es) es (start_of k es) && lt_z (sum k es) (pos 0)))

-- ---- the ring that is printed

-- 1 to m + 2 × n
unfoldable pub numbers : Ticket → List ℕ
numbers k = tab (size k) suc

-- the rings of a number of rules
unfoldable pub rings : Ticket → ℕ → List (List ℕ)
rings k count = keep (is_ring k) (tuples count (numbers k))

-- "the fewest rules possible": the least number of rules, from 1 to n + 1, that a ring has, 0 if there is none
unfoldable pub fewest : Ticket → ℕ
fewest k = seek (λ count. some? (rings k count)) 1 (suc (events k))

-- "among those, the one whose rule numbers, started at the lowest, come first in order", [] if there is none
unfoldable pub ring : Ticket → List ℕ
ring k = first_of (keep is_lowest (rings k (fewest k)))
