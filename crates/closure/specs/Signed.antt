-- Signed numbers as natural numbers: each is stored with 2,000,000 added to it. Rests on `temporal`'s two parts of a bound.
use Rattle.std.specs.Prelude.{ℕ, suc, ◌+◌, ◌≤◌, ◌≡◌, refl, ℤ, pos, negsuc, nat_abs, ◌+ℤ◌, ◌≤ℤ◌}
use Rattle.std.proofs.Common.{arith, leb→le, SFits, lt-ltb, le-ltb}
use Rattle.std.proofs.Math.IntN.{sub_ℕ}
use Rattle.std.specs.Int.{w32}
use Rattle.temporal.specs.Bound.{above, below}
use Rattle.closure.specs.Cases.{by_lt}

abbrev pub bias : ℕ
bias = 2000000

-- A bound as an entry, and an entry as a signed number.
abbrev pub raise : ℤ → ℕ
raise c = nat_abs (c +ℤ pos 2000000)

abbrev pub lower : ℕ → ℤ
lower x = sub_ℕ x bias

module _ (c : ℤ) (low : negsuc 999999 ≤ℤ c) where
  pub raise_pos : c +ℤ pos 2000000 ≡ pos (raise c)
  raise_pos = go c low
    where
      go : (c : ℤ) → negsuc 999999 ≤ℤ c → c +ℤ pos 2000000 ≡ pos (raise c)
      go (pos c) l = refl
      go (negsuc c) l = let k = leb→le c 999999 l.le in rw (le-ltb 2000000 (suc c) (omega arith))

pub raise_parts : (c : ℤ) → negsuc 999999 ≤ℤ c → raise c + below c ≡ bias + above c
unfolding above below
raise_parts (pos c) h = omega arith
raise_parts (negsuc c) h = let l = leb→le c 999999 h.le in rw (le-ltb 2000000 (suc c) (omega arith)) (omega arith)

pub raise_low : (c : ℤ) → negsuc 999999 ≤ℤ c → 1000000 ≤ raise c
raise_low (pos c) h = omega arith
raise_low (negsuc c) h = let l = leb→le c 999999 h.le in rw (le-ltb 2000000 (suc c) (omega arith)) (omega arith)

pub raise_high : (c : ℤ) → negsuc 999999 ≤ℤ c → c ≤ℤ pos 1000000 → raise c ≤ 3000000
raise_high (pos c) h k = omega (arith, leb→le c 1000000 k.le)
raise_high (negsuc c) h k = let l = leb→le c 999999 h.le in rw (le-ltb 2000000 (suc c) (omega arith)) (omega arith)

pub ranged_fits : (c : ℤ) → negsuc 999999 ≤ℤ c → c ≤ℤ pos 1000000 → SFits w32 c
ranged_fits (pos c) h k = record { sfits = omega (arith, leb→le c 1000000 k.le) }
ranged_fits (negsuc c) h k = record { sfits = omega (arith, leb→le c 999999 h.le) }

pub lower_fits : (x : ℕ) → x ≤ 43000000 → SFits w32 (lower x)
lower_fits x l =
    by_lt x bias
    (λ k. rw (lt-ltb x bias k) (record { sfits = omega arith }))
    (λ k. rw (le-ltb x bias k) (record { sfits = omega arith }))
