-- The table refuses under a number exactly where that is the number of the first cause that applies: "A causeless refusal is not allowed"
-- (01, "Where a paper is sent back"). The causes are said in the words of 01; the theorem is `table_refusal`, and of 9 alone `table_nine`.
-- Rests on TableCauses.
use Rattle.std.specs.Prelude.{ℕ, ◌≤◌, ◌<◌, ◌≡◌, List, [], ◌∷◌, ◌⊎◌, ◌≢◌, pos, negsuc, length, ◌≤ℤ◌}
use Rattle.temporal.specs.Ticket.{Rule, Schedule}
use Rattle.temporal.specs.Run.{ValidRule, Valid}
use Rattle.temporal.specs.Table.{ticket_of}

-- ---- the causes in the words of 01

-- the points of a rule are at most n, and they differ
abbrev pub RightPoints : ℕ → Rule → Type 0
RightPoints n r = (r.from ≤ n) × (r.to ≤ n) × (r.from ≢ r.to)

-- the bound is in range
abbrev pub RightBound : Rule → Type 0
RightBound r = (negsuc 999999 ≤ℤ r.bound) × (r.bound ≤ℤ pos 1000000)

-- of one rule, "6 before 7"
pub data RuleRefused (n : ℕ) (r : Rule) (x : ℕ) : Type 0 where
  points : x ≡ 6 → ¬ RightPoints n r → RuleRefused n r x
  bound : x ≡ 7 → RightPoints n r → ¬ RightBound r → RuleRefused n r x

-- "rule by rule": the rules before the one that is refused are right
abbrev pub RulesRefused : ℕ → List Rule → ℕ → Type 0
RulesRefused n [] x = ⊥
RulesRefused n (r ∷ rs) x = RuleRefused n r x ⊎ (ValidRule n r × RulesRefused n rs x)

-- x is the number of the first cause that applies, where `room` numbers are lent as output: "The table gives 10, 2, 3, 5, then rule by rule 6 before 7, then 9"
pub data TableRefused (h n : ℕ) (rules : List Rule) (room x : ℕ) : Type 0 where
  short : x ≡ 10 → room < 1681 → TableRefused h n rules room x
  horizon : x ≡ 2 → 1681 ≤ room → 1000000 < h → TableRefused h n rules room x
  events : x ≡ 3 → 1681 ≤ room → h ≤ 1000000 → 40 < n → TableRefused h n rules room x
  count : x ≡ 5 → 1681 ≤ room → h ≤ 1000000 → n ≤ 40 → 256 < length rules → TableRefused h n rules room x
  rule : 1681 ≤ room → h ≤ 1000000 → n ≤ 40 → length rules ≤ 256 → RulesRefused n rules x → TableRefused h n rules room x
  impossible : x ≡ 9 → 1681 ≤ room → Valid (ticket_of h n rules) → ((ts : List ℕ) → ¬ Schedule (ticket_of h n rules) ts)
      → TableRefused h n rules room x
