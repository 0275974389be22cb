-- The two's complement of 32 bits, by arithmetic that does not leave the range. Assumes nothing.
use Rattle.std.specs.Prelude.{ℕ, zero, suc, ◌-◌, ◌≤◌, ◌<◌, ◌≡◌, refl, Bool, true, false, T, ltb, leb, ℤ, pos, negsuc, nat_abs, ◌-ℤ◌, ◌≤ℤ◌}
use Rattle.std.proofs.Common.{ap, arith, le-ltb, le-leb, leb-true, leb→le, le→leb, Fits, SFits, to_z, of_z}
use Rattle.std.proofs.lemmas.Bool.{lt-leb}
use Rattle.temporal.proofs.Lists.{T-true}
use Rattle.std.specs.Int.Signed.{mag, le_z, non_neg}
use Rattle.std.specs.Int.{w32}
use Rattle.std.proofs.lemmas.Int.{to_z_pos}
use Rattle.ticket.specs.Format.{within}

pub to_z_high : (b : ℕ) → 2147483648 ≤ b → b ≤ 4294967295 → to_z w32 b ≡ negsuc (4294967295 - b)
to_z_high b l h =
    let e : 4294967296 - suc b ≡ 4294967295 - b = omega arith in
    rw (le-ltb b 2147483648 l, e)

-- -1 minus a number
pub minus_pos : (k : ℕ) → negsuc 0 -ℤ pos k ≡ negsuc k
minus_pos zero = refl
minus_pos (suc k) = ap (λ n. negsuc (suc n)) (omega arith)

pub minus_negsuc : (k : ℕ) → negsuc 0 -ℤ negsuc k ≡ pos k
minus_negsuc k =
    let e : suc k - 1 ≡ k = omega arith in
    rw (le-ltb (suc k) 1 (omega arith), e)

-- The upper half of the bits.
pub minus_to_z : (b : ℕ) → 2147483648 ≤ b → b ≤ 4294967295 → negsuc 0 -ℤ to_z w32 (4294967295 - b) ≡ to_z w32 b
minus_to_z b l h = rw (to_z_pos w32 (4294967295 - b) (omega arith), to_z_high b l h) (minus_pos (4294967295 - b))

-- ---- the bits of a number

pub low : (z : ℤ) → SFits w32 z → le_z (pos 0) z ≡ true → T (non_neg z) × Fits w32 (nat_abs z)
low (pos n) f e = (tt, record { fits = omega (arith, f.sfits) })
low (negsuc n) f e = absurd (let x : ◌≡◌ {A = ℕ} 0 1 = cc in omega arith)

pub low_bits : (z : ℤ) → le_z (pos 0) z ≡ true → nat_abs z ≡ of_z w32 z
low_bits (pos n) e = refl
low_bits (negsuc n) e = absurd (let x : ◌≡◌ {A = ℕ} 0 1 = cc in omega arith)

pub minus_high : (z : ℤ) → le_z (pos 0) z ≡ false → negsuc 0 -ℤ z ≡ pos (mag z)
minus_high (pos n) e = absurd (let x : ◌≡◌ {A = ℕ} 0 1 = cc (le-leb 0 n (omega arith)) in omega arith)
minus_high (negsuc n) e = minus_negsuc n

pub high_bits : (z : ℤ) → le_z (pos 0) z ≡ false → 4294967295 - mag z ≡ of_z w32 z
high_bits (pos n) e = absurd (let x : ◌≡◌ {A = ℕ} 0 1 = cc (le-leb 0 n (omega arith)) in omega arith)
high_bits (negsuc n) e = omega arith

-- ---- the range of a bound, by its bits

module _ (b : ℕ) (h : b ≤ 4294967295) where
  pub within_low : b ≤ 1000000 → within (to_z w32 b) ≡ true
  within_low l = rw (to_z_pos w32 b (omega arith)) (le-leb b 1000000 l)

  pub within_high : 4294967295 - b < 1000000 → within (to_z w32 b) ≡ true
  within_high l = rw (to_z_high b (omega arith) h) (le-leb (suc (4294967295 - b)) 1000000 l)

  pub within_out : 1000000 < b → 1000000 ≤ 4294967295 - b → within (to_z w32 b) ≡ false
  within_out l k = go (ltb b 2147483648) refl
    where
      go : (t : Bool) → ltb b 2147483648 ≡ t → within (to_z w32 b) ≡ false
      go true e = rw e (lt-leb b 1000000 l)
      go false e = rw e (lt-leb (suc (4294967296 - suc b)) 1000000 (omega arith))

-- ---- the range of a bound, as a test and as `temporal` says it

pub in_range : (z : ℤ) → negsuc 999999 ≤ℤ z → z ≤ℤ pos 1000000 → within z ≡ true
in_range (pos n) a b = T-true (leb n 1000000) b.le
in_range (negsuc n) a b = le-leb (suc n) 1000000 (omega (arith, leb→le n 999999 a.le))

pub range_in : (z : ℤ) → within z ≡ true → (negsuc 999999 ≤ℤ z) × (z ≤ℤ pos 1000000)
range_in (pos n) h = (record { le = tt }, record { le = le→leb n 1000000 (leb-true n 1000000 h) })
range_in (negsuc n) h = (record { le = le→leb n 999999 (omega (arith, leb-true (suc n) 1000000 h)) }, record { le = tt })

pub fits_within : (z : ℤ) → within z ≡ true → SFits w32 z
fits_within (pos n) h = record { sfits = omega (arith, leb-true n 1000000 h) }
fits_within (negsuc n) h = record { sfits = omega (arith, leb-true (suc n) 1000000 h) }
