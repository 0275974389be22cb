-- The laws of what specs/Round defines.
use Rattle.std.specs.Prelude.{◌≡◌, ℕ, zero, suc, ◌+◌, ◌*◌, ◌/◌, ◌≤◌, ◌<◌}
use Rattle.std.proofs.Math.Path.{ap}
use Rattle.std.proofs.Common.{◌∙◌, suc-mul, div-mul-le_self, le-div_iff_mul-le, arith}
use Rattle.std.proofs.Math.Nat.{add-mul-div_left, div-eq_of_lt}
use Rattle.network.specs.Sum.{sum, sum_cong, sum_none, sum_first}
use Rattle.rounding.specs.Round.{round}

-- a larger number has no smaller rounding
pub round_le : (q s x y : ℕ) → 1 ≤ q → x ≤ y → round q s x ≤ round q s y
unfolding round
round_le q s x y l h = (le-div_iff_mul-le l).1 (omega (arith, div-mul-le_self (x + s) q))

-- whole ones more
pub round_add : (q s x c : ℕ) → 1 ≤ q → round q s (x + q * c) ≡ round q s x + c
unfolding round
round_add q s x c l = ap (λ n. n / q) (omega arith) ∙ add-mul-div_left (x + s) c l

pub round_zero : (q s : ℕ) → s < q → round q s 0 ≡ 0
unfolding round
round_zero q s b = div-eq_of_lt (omega arith)

-- whole ones stay
pub round_whole : (q s c : ℕ) → s < q → round q s (q * c) ≡ c
round_whole q s c b = ap (round q s) (omega arith) ∙ round_add q s 0 c (omega arith) ∙ omega (arith, round_zero q s b)

-- ---- their sum

pub sum_const : (n c : ℕ) → sum n (λ i. c) ≡ n * c
unfolding sum
sum_const zero c = omega arith
sum_const (suc n) c = omega (arith, sum_const n c, suc-mul n c)

-- one part more is the roundings from s = 1 on: the last is that of s = 0, and one
pub hermite : (q x : ℕ) → 1 ≤ q → sum q (λ s. round q s x) ≡ x
hermite q zero l = sum_none q (λ s. round q s 0) (λ s b. round_zero q s b)
hermite q (suc x) l = omega (arith, moved, sum_first q (λ s. round q s x), last, hermite q x l)
  where
    moved : sum q (λ s. round q s (suc x)) ≡ sum q (λ s. round q (suc s) x)
    moved = sum_cong (λ s. round q s (suc x)) (λ s. round q (suc s) x) q (λ s b. unfold round in ap (λ n. n / q) (omega arith))

    last : sum (suc q) (λ s. round q s x) ≡ sum q (λ s. round q s x) + (round q 0 x + 1)
    last = unfold sum round in ap (λ n. sum q (λ s. (x + s) / q) + n) (ap (λ n. n / q) (omega arith) ∙ add-mul-div_left (x + 0) 1 l)
