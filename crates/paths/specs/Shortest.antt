-- The shortest path between two points whose inner points are some of the points, and the stops already taken (02, change 3).
-- Where there is a path there is one of at most n + 1 rules: `short_path`. Rests on Walks and Repeats.
use Rattle.std.specs.Prelude.{◌≡◌, List, [], ◌∷◌, map, ℕ, ◌+◌, ◌≤◌, ◌<◌, ℤ, ◌≤ℤ◌}
use Rattle.temporal.specs.Lists.{All}
use Rattle.temporal.specs.Ticket.{Ticket}
use Rattle.paths.specs.Rules.{from_of, to_of, Number, Walk, sum}

-- ---- the definitions

-- the inner points of a walk: where each of its rules but the last goes to
abbrev pub inner : Ticket → List ℕ → List ℕ
inner k [] = []
inner k (e ∷ []) = []
inner k (e ∷ f ∷ es) = to_of k e ∷ inner k (f ∷ es)

-- p is one of the first s of the stops n, n - 1, .., 1, 0: "from event n down to 1, then session start"
abbrev pub Taken : ℕ → ℕ → ℕ → Type 0
Taken n s p = (p ≤ n) × (n < p + s)

-- any point
abbrev pub Any : ℕ → Type 0
Any p = Unit {0}

-- a path from i to j whose inner points are among P; of no rules, from a point to itself
pub record Path (k : Ticket) (P : ℕ → Type 0) (i j : ℕ) (es : List ℕ) : Type 0 where
  pub numbers : All (Number k) es
  pub leads : Walk k i es j
  pub by : All P (inner k es)

-- d is the sum of such a path, and no such path has a smaller sum
pub record Shortest (k : Ticket) (P : ℕ → Type 0) (i j : ℕ) (d : ℤ) : Type 0 where
  pub rules : List ℕ
  pub path : Path k P i j rules
  pub total : sum k rules ≡ d
  pub least : (es : List ℕ) → Path k P i j es → d ≤ℤ sum k es

-- there is no such path
abbrev pub Unreached : Ticket → (ℕ → Type 0) → ℕ → ℕ → Type 0
Unreached k P i j = (es : List ℕ) → Path k P i j es → ⊥

-- ---- paths of few rules

-- the points that the rules go from
abbrev pub points : Ticket → List ℕ → List ℕ
points k es = map (from_of k) es
