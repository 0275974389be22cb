-- How the printed ring is found: the fewest rules from the least costs of walks, and then rule by rule the lowest number with which a ring of as few
-- rules can still be closed. These pure functions are `fewest` (`shortest_fewest`) and `ring` (`ring_greedy`, and for all valid tickets `ring_found`).
use Rattle.std.specs.Prelude.{Bool, ◌&&◌, ltb, eqb}
use mathlib.Core.List.{List, [], ◌∷◌}
use Prim.Native.Nat.{ℕ, zero, suc, ◌+◌, ◌*◌}
use Rattle.temporal.specs.Ticket.{Ticket, events}
use Rattle.rings.specs.Order.{seek, any_upto}
use Rattle.paths.specs.Rules.{size, from_of, to_of}
use Rattle.rings.specs.Costs.{cost, walks}

-- ---- the definitions

-- whether a ring of r rules goes through point q
unfoldable pub through : Ticket → ℕ → ℕ → Bool
through k r q = ltb (walks k q r q) (r * 1000000)

-- the least number of rules, from 1 to n + 1, of which a ring goes through a point, 0 if there is none
unfoldable pub shortest : Ticket → ℕ
shortest k = seek (λ r. any_upto (through k r) (events k)) 1 (suc (events k))

-- whether a ring of r + 1 rules can start with rule e
unfoldable pub starts : Ticket → ℕ → ℕ → Bool
starts k r e = ltb (cost k e + walks k (from_of k e) r (to_of k e)) (suc r * 1000000)

-- whether after cost s at point p rule e can be followed by r rules to q, for less than the limit
unfoldable pub continues : Ticket → ℕ → ℕ → ℕ → ℕ → ℕ → ℕ → Bool
continues k q limit s p r e = eqb (from_of k e) p && ltb (s + cost k e + walks k q r (to_of k e)) limit

-- the rules of a ring after cost s at point p, of which r are left: each the lowest number that can be continued
unfoldable pub rest : Ticket → ℕ → ℕ → ℕ → ℕ → ℕ → List ℕ
rest k q limit s p zero = []
rest k q limit s p (suc r) =
    let e = seek (continues k q limit s p r) 1 (size k) in
    e ∷ rest k q limit (s + cost k e) (to_of k e) r

-- a ring of that many rules: first the lowest number that can start one
unfoldable pub greedy : Ticket → ℕ → List ℕ
greedy k zero = []
greedy k (suc r) =
    let e = seek (starts k r) 1 (size k) in
    e ∷ rest k (from_of k e) (suc r * 1000000) (cost k e) (to_of k e) r

-- the ring of the fewest rules, [] if there is none
unfoldable pub found : Ticket → List ℕ
found k = greedy k (shortest k)
