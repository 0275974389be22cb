-- Kept and dropped rules together are the rules of the ticket, in order. Rests on Selection.
use Rattle.std.specs.Prelude.{ℕ, suc, ◌≤◌, Bool, false, cond, ◌||◌, List, [], ◌∷◌, eqb}
use Rattle.temporal.specs.Ticket.{Rule}

-- the rules, which have the numbers from i on, are split into kept ones and the numbers of dropped ones, both in the order of the rules
pub data Split : ℕ → List Rule → List Rule → List ℕ → Type 0 where
  none : {i : ℕ} → Split i [] [] []
  keeps : {i : ℕ} {r : Rule} {rules kept : List Rule} {numbers : List ℕ} → Split (suc i) rules kept numbers → Split i (r ∷ rules) (r ∷ kept) numbers
  drops : {i : ℕ} {r : Rule} {rules kept : List Rule} {numbers : List ℕ} → Split (suc i) rules kept numbers → Split i (r ∷ rules) kept (i ∷ numbers)

-- ---- the dropped numbers rise

-- the numbers rise, and lie in a to b
abbrev pub Rising : ℕ → ℕ → List ℕ → Type 0
Rising a b [] = Unit {0}
Rising a b (x ∷ xs) = (a ≤ x) × (x ≤ b) × Rising (suc x) b xs

-- ---- the kept rules are those whose numbers are not in the list

abbrev pub has : List ℕ → ℕ → Bool
has [] i = false
has (x ∷ xs) i = eqb x i || has xs i

-- of the rules, which have the numbers from i on, those whose numbers pass the test
unfoldable pub passing : (ℕ → Bool) → ℕ → List Rule → List Rule
passing p i [] = []
passing p i (r ∷ rules) = cond (p i) (r ∷ passing p (suc i) rules) (passing p (suc i) rules)
