-- Lists that go around: a list that starts at its lowest number, and the turn of a list that does. Rests on temporal's Lists and on paths' Repeats.
use Rattle.std.specs.Prelude.{◌≡◌, Bool, true, ℕ, ◌≤◌, leb}
use mathlib.Core.List.{List, [], ◌∷◌, ◌++◌}
use Rattle.temporal.specs.Lists.{All, all}

-- ---- where a list has its lowest number

-- the list starts at its lowest number
abbrev pub Lowest : List ℕ → Type 0
Lowest [] = Unit {0}
Lowest (x ∷ xs) = All (λ y. x ≤ y) xs

-- the same as a test
abbrev pub is_lowest : List ℕ → Bool
is_lowest [] = true
is_lowest (x ∷ xs) = all (λ y. leb x y) xs

-- the list is cut before y, its lowest number
abbrev pub LowestCut : List ℕ → Type 0
LowestCut xs = (front : List ℕ) × (y : ℕ) × (back : List ℕ) × (xs ≡ front ++ (y ∷ back)) × All (λ z. y ≤ z) xs

-- the second list goes around as the first does, from another place on
abbrev pub Turn : List ℕ → List ℕ → Type 0
Turn xs ys = (a b : List ℕ) × (xs ≡ a ++ b) × (ys ≡ b ++ a)
