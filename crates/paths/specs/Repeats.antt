-- Lists without repeats (such a list of numbers below n has at most n of them, the pigeonhole principle), and where a list repeats.
-- Rests on temporal's Lists.
use Rattle.std.specs.Prelude.{◌≡◌, List, [], ◌∷◌, ◌++◌, ◌≢◌, ℕ}
use Rattle.temporal.specs.Lists.{All}

-- ---- lists without repeats

-- the numbers of a list are all different
abbrev pub Differ : List ℕ → Type 0
Differ [] = Unit {0}
Differ (x ∷ xs) = All (λ y. x ≢ y) xs × Differ xs

-- ---- where a list repeats

-- f takes the same value at x and at y, two places of the list
pub record Repeat (f : ℕ → ℕ) (xs : List ℕ) : Type 0 where
  pub front : List ℕ
  pub x : ℕ
  pub middle : List ℕ
  pub y : ℕ
  pub back : List ℕ
  pub shape : xs ≡ front ++ ((x ∷ middle) ++ (y ∷ back))
  pub same : f x ≡ f y
