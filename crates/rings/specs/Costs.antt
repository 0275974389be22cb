-- What rules cost, and the least cost of a walk of exactly r rules from one point to another, by one round over the rules for each r.
-- A rule costs its bound plus 1,000,000, so nothing is negative: the bounds of r rules sum below 0 where they cost less than r × 1,000,000. "No walk" is
-- a number above all that are compared, so it needs no case of its own.
use Rattle.std.proofs.Math.Bool.{cond}
use mathlib.Core.List.{List, [], ◌∷◌}
use Prim.Native.Nat.{ℕ, zero, suc, ◌+◌, min}
use Rattle.std.proofs.Math.Dec.{eqb}
use Rattle.temporal.specs.Bound.{biased}
use Rattle.temporal.specs.Ticket.{Ticket}
use Rattle.paths.specs.Rules.{size, from_of, to_of, bound_of}

-- ---- the definitions

-- stands for "no walk": at least every limit that a cost is compared with, 41 × 1,000,000
unfoldable pub top : ℕ
top = 1000000000

-- what a rule costs: its bound, one million higher
unfoldable pub cost : Ticket → ℕ → ℕ
cost k e = biased (bound_of k e)

unfoldable pub costs : Ticket → List ℕ → ℕ
costs k [] = 0
costs k (e ∷ es) = cost k e + costs k es

-- the least cost to go by one of the rules 1 to e from point p, and on from where it goes to at the cost w
unfoldable pub via : Ticket → (ℕ → ℕ) → ℕ → ℕ → ℕ
via k w p zero = top
via k w p (suc e) = cond (eqb (from_of k (suc e)) p) (min (via k w p e) (cost k (suc e) + w (to_of k (suc e)))) (via k w p e)

-- the least cost of a walk of exactly r rules from point p to point q
unfoldable pub walks : Ticket → ℕ → ℕ → ℕ → ℕ
walks k q zero p = cond (eqb p q) 0 top
walks k q (suc r) p = via k (walks k q r) p (size k)
