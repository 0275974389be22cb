-- Sums over the first n devices.
use Rattle.std.specs.Prelude.{◌≡◌, refl, cond, ℕ, zero, suc, ◌+◌, ◌≤◌, ◌<◌, eqb}
use Rattle.std.proofs.Common.{ap, arith}
use Rattle.std.proofs.Math.Dec.{eqb-zero-suc, eqb-suc-zero, eqb-suc-suc}
use Rattle.temporal.specs.Lists.{tab}
use Rattle.temporal.proofs.Lists.{tab_cong}
use Rattle.parts.specs.Part.{sum}

pub sum_cong : (n : ℕ) (f g : ℕ → ℕ) → ((i : ℕ) → i < n → f i ≡ g i) → sum (tab n f) ≡ sum (tab n g)
sum_cong n f g h = ap sum (tab_cong n f g h)

pub sum_zero : (n : ℕ) (f : ℕ → ℕ) → ((i : ℕ) → f i ≡ 0) → sum (tab n f) ≡ 0
unfolding sum tab
sum_zero zero f h = refl
sum_zero (suc n) f h = omega (arith, h 0, sum_zero n (λ i. f (suc i)) (λ i. h (suc i)))

pub sum_plus : (n : ℕ) (f g : ℕ → ℕ) → sum (tab n (λ i. f i + g i)) ≡ sum (tab n f) + sum (tab n g)
unfolding sum tab
sum_plus zero f g = refl
sum_plus (suc n) f g = omega (arith, sum_plus n (λ i. f (suc i)) (λ i. g (suc i)))

pub sum_le : (n : ℕ) (f g : ℕ → ℕ) → ((i : ℕ) → i < n → f i ≤ g i) → sum (tab n f) ≤ sum (tab n g)
unfolding sum tab
sum_le zero f g h = omega arith
sum_le (suc n) f g h = omega (arith, h 0 (omega arith), sum_le n (λ i. f (suc i)) (λ i. g (suc i)) (λ i l. h (suc i) (omega arith)))

-- no term above another, and the same sum: the same terms
pub sum_same : (n : ℕ) (f g : ℕ → ℕ) → ((i : ℕ) → i < n → f i ≤ g i) → sum (tab n f) ≡ sum (tab n g) → (i : ℕ) → i < n → f i ≡ g i
unfolding sum tab
sum_same zero f g h e i l = absurd (none l)
  where
    none : i < 0 → ⊥
    none q = omega arith
sum_same (suc n) f g h e zero l = omega (arith, h 0 (omega arith), sum_le n (λ i. f (suc i)) (λ i. g (suc i)) (λ i m. h (suc i) (omega arith)))
sum_same (suc n) f g h e (suc i) l =
    sum_same n (λ j. f (suc j)) (λ j. g (suc j)) (λ j m. h (suc j) (omega arith))
    (omega (arith, h 0 (omega arith), sum_le n (λ j. f (suc j)) (λ j. g (suc j)) (λ j m. h (suc j) (omega arith)))) i (omega arith)

-- x at one place o, and 0 elsewhere
pub sum_only : (n o x : ℕ) → o < n → sum (tab n (λ d. cond (eqb o d) x 0)) ≡ x
unfolding sum tab
sum_only zero o x l = absurd (none l)
  where
    none : o < 0 → ⊥
    none q = omega arith
sum_only (suc n) zero x l = omega (arith, sum_zero n (λ d. cond (eqb 0 (suc d)) x 0) (λ d. ap (λ b. cond b x 0) (eqb-zero-suc d)))
sum_only (suc n) (suc o) x l = omega (
  arith,
  ap (λ b. cond b x 0) (eqb-suc-zero o),
  sum_cong n (λ d. cond (eqb (suc o) (suc d)) x 0) (λ d. cond (eqb o d) x 0) (λ d m. ap (λ b. cond b x 0) (eqb-suc-suc o d)),
  sum_only n o x (omega arith),
)
