-- The first number from 1 on that something holds of, as a loop finds it, and as several loops do one after the other. Rests on rings' First.
use Rattle.std.specs.Prelude.{◌≡◌, Bool, ◌⊎◌, ℕ, suc, ◌≤◌, ◌<◌, T}
use Rattle.std.proofs.Common.{subst, ⊎_elim, arith}
use Rattle.temporal.proofs.Lists.{below_or_not}
use Rattle.rings.specs.Order.{First}

-- e is the first number from 1 on and below b that P holds of; b if there is none
pub record FirstOr (P : ℕ → Type 0) (b e : ℕ) : Type 0 where
  pub low : 1 ≤ e
  pub high : e ≤ b
  pub none : (x : ℕ) → 1 ≤ x → x < e → ¬ P x
  pub here : e < b → P e

-- ---- one loop

-- P holds of none of the numbers from 1 on below e
pub record Passed (P : ℕ → Type 0) (e : ℕ) : Type 0 where
  pub low : 1 ≤ e
  pub none : (x : ℕ) → 1 ≤ x → x < e → ¬ P x

-- ---- several loops, each below what the one before it found

pub first_or_start : {P : ℕ → Type 0} (b : ℕ) → 1 ≤ b → ((x : ℕ) → 1 ≤ x → x < b → ¬ P x) → FirstOr P b b
first_or_start b l n = record { low = l; high = omega arith; none = n; here = λ s. absurd (omega arith) }

-- R holds where P or Q does
pub first_or_join : {P Q R : ℕ → Type 0} {b e f : ℕ} → FirstOr P b e → FirstOr Q e f → ((x : ℕ) → 1 ≤ x → x < b → P x → R x)
    → ((x : ℕ) → 1 ≤ x → x < b → Q x → R x) → ((x : ℕ) → 1 ≤ x → x < b → R x → P x ⊎ Q x) → FirstOr R b f
first_or_join {P} {Q} {R} {b} {e} {f} h g p q r = record {
  low = g.low;
  high = omega (arith, h.high, g.high);
  none = λ x a l y. ⊎_elim (h.none x a (omega (arith, g.high))) (g.none x a l) (r x a (omega (arith, g.high, h.high)) y);
  here = λ l.
      ⊎_elim (λ (s : f < e). q f g.low l (g.here s))
      (λ (s : e ≤ f).
      let z : e ≡ f = omega (arith, g.high) in
      p f g.low l (subst P z (h.here (omega arith))))
      (below_or_not f e);
}

-- two that agree
pub first_or_same : {P Q : ℕ → Type 0} {b e : ℕ} → FirstOr P b e → ((x : ℕ) → 1 ≤ x → x < b → P x → Q x)
    → ((x : ℕ) → 1 ≤ x → x < b → Q x → P x) → FirstOr Q b e
first_or_same h p q = record {
  low = h.low;
  high = h.high;
  none = λ x a l y. h.none x a l (q x a (omega (arith, h.high)) y);
  here = λ l. p _ h.low l (h.here l);
}

-- ---- tests

module _ (t : ℕ → Bool) (n e : ℕ) (h : FirstOr (λ x. T (t x)) (suc n) e) where
  pub first_or_first : e ≤ n → First t 1 n e
  first_or_first l = record {
    passes = h.here (omega arith);
    above = h.low;
    below = omega arith;
    least = λ x a p. ⊎_elim (λ (s : x < e). absurd (h.none x a s p)) (λ (s : e ≤ x). s) (below_or_not x e);
  }

  -- where a number passes, it is found
  pub first_or_some : (x : ℕ) → First t 1 n x → e ≤ n
  first_or_some x f = ⊎_elim (λ (s : n < e). absurd (h.none x f.above (omega (arith, f.below)) f.passes)) (λ (s : e ≤ n). s) (below_or_not n e)
