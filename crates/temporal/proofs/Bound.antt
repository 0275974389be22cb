-- The laws of what specs/Bound defines.
use Rattle.std.specs.Prelude.{◌↔◌, Bool, true, false, not, cond, ℕ, suc, ◌+◌, ◌-◌, ◌≤◌, ◌<◌, T, ltb, ℤ, pos, negsuc, ◌≤ℤ◌}
use Rattle.std.proofs.Common.{arith, leb→le, le→leb, ltb→lt, nltb→le}
use Rattle.std.specs.Int.Signed.{le_z}
use Rattle.temporal.specs.Bound.{AtMost, above, at_most, below, biased}

-- the two cases of a difference
differ : (a b : ℕ) (c : ℤ) (t : Bool) → (T t → b < a) → (T (not t) → a ≤ b) → T (le_z (cond t (negsuc (a - suc b)) (pos (b - a))) c) → b + below c ≤ a + above c
unfolding above below
differ a b (pos n) true lt ge h = omega (arith, lt tt)
differ a b (pos n) false lt ge h = omega (arith, leb→le (b - a) n h)
differ a b (negsuc n) true lt ge h = omega (arith, lt tt, leb→le n (a - suc b) h)
differ a b (negsuc n) false lt ge h = absurd h

pub at_most_le : (a b : ℕ) (c : ℤ) → T (at_most a b c) → b + below c ≤ a + above c
unfolding at_most
at_most_le a b c h = differ a b c (ltb b a) (λ t. ltb→lt b a t) (λ t. nltb→le b a t) h

agree : (a b : ℕ) (c : ℤ) (t : Bool) → (T t → b < a) → (T (not t) → a ≤ b) → b + below c ≤ a + above c → T (le_z (cond t (negsuc (a - suc b)) (pos (b - a))) c)
unfolding above below
agree a b (pos n) true lt ge h = tt
agree a b (pos n) false lt ge h = le→leb (b - a) n (omega arith)
agree a b (negsuc n) true lt ge h = le→leb n (a - suc b) (omega (arith, lt tt))
agree a b (negsuc n) false lt ge h = omega (arith, ge tt)

pub le_at_most : (a b : ℕ) (c : ℤ) → b + below c ≤ a + above c → T (at_most a b c)
unfolding at_most
le_at_most a b c h = agree a b c (ltb b a) (λ t. ltb→lt b a t) (λ t. nltb→le b a t) h

-- the signed statement and the one without a sign
pub signed : (a b : ℕ) (c : ℤ) → AtMost a b c ↔ (b + below c ≤ a + above c)
unfolding at_most
signed a b c = (λ h. at_most_le a b c h.le, λ h. record { le = le_at_most a b c h })

pub test_signed : (a b : ℕ) (c : ℤ) → T (at_most a b c) ↔ AtMost a b c
unfolding at_most
test_signed a b c = (λ h. record { le = h }, λ h. h.le)

-- of a bound in a ticket's range
pub above_most : (c : ℤ) → c ≤ℤ pos 1000000 → above c ≤ 1000000
unfolding above
above_most (pos n) h = leb→le n 1000000 h.le
above_most (negsuc n) h = omega arith

pub below_most : (c : ℤ) → negsuc 999999 ≤ℤ c → below c ≤ 1000000
unfolding below
below_most (pos n) h = omega arith
below_most (negsuc n) h = omega (arith, leb→le n 999999 h.le)

pub with_bias : (a b : ℕ) (c : ℤ) → below c ≤ 1000000 → AtMost a b c ↔ (b + 1000000 ≤ a + biased c)
unfolding biased
with_bias a b c l = (λ h. omega (arith, (signed a b c).0 h), λ h. (signed a b c).1 (omega arith))
