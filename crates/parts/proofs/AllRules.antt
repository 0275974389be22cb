-- A rule from each of the points 0 to n to each other: what holds of these rules holds of any two different points, and the other way round; and how many they are.
use Rattle.std.specs.Prelude.{◌≡◌, cond, ◌≢◌, eqb, ℤ}
use Rattle.std.proofs.Math.Path.{refl, ap, ap₂}
use mathlib.Core.List.{List, [], ◌∷◌, ◌++◌}
use Rattle.std.proofs.Math.Logic.{by_cases}
use Rattle.std.proofs.Common.{⊎_elim, eq-eqb, ne_eqb}
use Prim.Native.Nat.{ℕ, zero, suc, ◌+◌, ◌*◌, ◌≤◌, ◌<◌}
use Rattle.std.proofs.Math.Decide.{ℕ_discrete}
use Rattle.std.proofs.Math.Numerals.{add-one}
use native.Mathlib.Omega.{arith}
use borrow.Author.Count.{below_more}
use Rattle.std.proofs.Math.ListN.{length, length-append}
use Rattle.temporal.specs.Lists.{All}
use Rattle.temporal.proofs.Lists.{All-join, All-parts, below_or_not}
use Rattle.temporal.specs.Ticket.{Rule}
use Rattle.parts.specs.Part.{joined, bounded_rule, rule_between, all_rules}

-- ---- joined lists

module _ {A : Type 0} where
  pub joined_more : (n : ℕ) (f : ℕ → List A) → joined (n + 1) f ≡ joined n f ++ f n
  unfolding joined
  joined_more n f = rw add-one

  pub joined_cong : (n : ℕ) (f g : ℕ → List A) → ((i : ℕ) → i < n → f i ≡ g i) → joined n f ≡ joined n g
  unfolding joined
  joined_cong zero f g h = refl
  joined_cong (suc n) f g h = ap₂ ◌++◌ (joined_cong n f g (λ i l. h i (omega arith))) (h n (omega arith))

  joined_all : (P : A → Type 0) (n : ℕ) (f : ℕ → List A) → ((i : ℕ) → i < n → All P (f i)) → All P (joined n f)
  unfolding joined
  joined_all P zero f h = tt
  joined_all P (suc n) f h = All-join P (joined n f) (f n) (joined_all P n f (λ i l. h i (omega arith))) (h n (omega arith))

  joined_at : (P : A → Type 0) (n : ℕ) (f : ℕ → List A) → All P (joined n f) → (i : ℕ) → i < n → All P (f i)
  unfolding joined
  joined_at P zero f h i l = absurd (none l)
    where
      none : i < 0 → ⊥
      none q = omega arith
  joined_at P (suc n) f h i l =
      let both = All-parts P (joined n f) (f n) h in
      let e : suc n ≡ n + 1 = omega arith in
      below_more (λ j. All P (f j)) n (λ j m. joined_at P n f both.0 j m) both.1 i (rw e at l)

-- ---- the rules

module _ (bound : ℕ → ℕ → ℤ) where
  pub between_self : (i j : ℕ) → i ≡ j → rule_between bound i j ≡ []
  unfolding rule_between
  between_self i j e = rw (eq-eqb i j e)

  pub between_other : (i j : ℕ) → i ≢ j → rule_between bound i j ≡ bounded_rule bound i j ∷ []
  unfolding rule_between
  between_other i j n = rw (ne_eqb i j n)

module _ (n : ℕ) (bound : ℕ → ℕ → ℤ) (P : Rule → Type 0) where
  pub rules_all : ((i j : ℕ) → i ≤ n → j ≤ n → i ≢ j → P (bounded_rule bound i j)) → All P (all_rules n bound)
  unfolding all_rules
  rules_all h =
      joined_all P (suc n) (λ i. joined (suc n) (rule_between bound i))
      (λ i li. joined_all P (suc n) (rule_between bound i) (λ j lj. by_cases (ℕ_discrete i j)
      (λ e. rw (between_self bound i j e) tt)
      (λ d. rw (between_other bound i j d) (h i j (omega arith) (omega arith) d, tt))))

  pub rules_at_lem : All P (all_rules n bound) → (i j : ℕ) → i ≤ n → j ≤ n → i ≢ j → P (bounded_rule bound i j)
  unfolding all_rules
  rules_at_lem h i j li lj d =
      (rw (between_other bound i j d) at
      (joined_at P (suc n) (rule_between bound i)
      (joined_at P (suc n) (λ i. joined (suc n) (rule_between bound i)) h i (omega arith)) j (omega arith))).0

-- ---- other bounds between the points, and how many rules there are

pub rules_cong : (n : ℕ) (bound other : ℕ → ℕ → ℤ) → ((i j : ℕ) → i ≤ n → j ≤ n → bound i j ≡ other i j) → all_rules n bound ≡ all_rules n other
unfolding all_rules rule_between
rules_cong n bound other h =
    joined_cong (suc n) _ _ (λ i li. joined_cong (suc n) _ _ (λ j lj. ap (λ z. cond (eqb i j) [] (record { from = i; to = j; bound = z } ∷ [])) (h i j (omega arith) (omega arith))))

module _ (bound : ℕ → ℕ → ℤ) where
  length_next : (n : ℕ) (f : ℕ → List Rule) → length (joined (suc n) f) ≡ length (joined n f) + length (f n)
  unfolding joined
  length_next n f = simp length-append refl

  -- a rule to each of the first c points but i
  row_length : (i c : ℕ) → (i < c → length (joined c (rule_between bound i)) + 1 ≡ c) × (c ≤ i → length (joined c (rule_between bound i)) ≡ c)
  unfolding joined
  row_length i zero = (λ (l : i < 0). absurd (omega arith), λ l. refl)
  row_length i (suc c) =
      let h = row_length i c in
      let e = length_next c (rule_between bound i) in
      by_cases (ℕ_discrete i c)
      (λ (q : i ≡ c). (
        λ l. omega (arith, e, h.1 (omega arith), ap length (between_self bound i c q)),
        λ (l : suc c ≤ i). absurd (omega arith),
      ))
      (λ (d : i ≢ c). (
        λ (l : i < suc c). omega (arith, e, h.0 (omega arith), ap length (between_other bound i c d)),
        λ (l : suc c ≤ i). omega (arith, e, h.1 (omega arith), ap length (between_other bound i c d)),
      ))

  pub row_few : (i c : ℕ) → length (joined c (rule_between bound i)) ≤ c
  row_few i c = ⊎_elim
      (λ (l : i < c). omega (arith, (row_length i c).0 l))
      (λ (l : c ≤ i). omega (arith, (row_length i c).1 l))
      (below_or_not i c)

  pub rows_length : (n r : ℕ) → n ≤ 40 → r ≤ suc n → length (joined r (λ i. joined (suc n) (rule_between bound i))) ≤ 40 * r
  unfolding joined
  rows_length n zero few l = omega arith
  rows_length n (suc r) few l = omega (
    arith,
    length_next r (λ i. joined (suc n) (rule_between bound i)),
    rows_length n r few (omega arith),
    (row_length r (suc n)).0 (omega arith),
  )

  pub rules_most : (n : ℕ) → n ≤ 40 → length (all_rules n bound) ≤ 1640
  unfolding all_rules
  rules_most n few = omega (arith, rows_length n (suc n) few (omega arith))
