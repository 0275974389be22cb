-- A signed bound and its biased cost, by arithmetic that does not leave the range of 32 bits.
use Rattle.std.specs.Prelude.{◌≤◌, ◌≡◌, ℤ, pos, negsuc}
use Rattle.std.proofs.Common.{arith, SFits, ◌+ℤ◌, to_z, of_z}
use Rattle.std.proofs.lemmas.Int.{ints, to_z-of_z}
use Rattle.std.specs.Int.{w32}
use Rattle.temporal.specs.Bound.{above, below, biased}

-- the bias and the bound, added as signed numbers
pub biased_sum : (z : ℤ) → below z ≤ 1000000 → pos 1000000 +ℤ z ≡ pos (biased z)
unfolding above below biased
biased_sum (pos n) l = omega (arith, ints)
biased_sum (negsuc n) l = omega (arith, ints)

pub biased_most : (z : ℤ) → above z ≤ 1000000 → biased z ≤ 2000000
unfolding biased
biased_most z l = omega arith

-- a bound of the range fits 32 bits
pub bound_fits : (z : ℤ) → above z ≤ 1000000 → below z ≤ 1000000 → SFits w32 z
unfolding above below
bound_fits (pos n) a b = record { sfits = omega arith }
bound_fits (negsuc n) a b = record { sfits = omega arith }

-- so the sum, as the code computes it in 32 bits, is the biased bound
pub biased_read : (z : ℤ) → above z ≤ 1000000 → below z ≤ 1000000 → to_z w32 (of_z w32 (pos 1000000 +ℤ to_z w32 (of_z w32 z))) ≡ pos (biased z)
biased_read z a b =
    let f : SFits w32 (pos (biased z)) = record { sfits = omega (arith, biased_most z a) } in
    rw (to_z-of_z w32 z (bound_fits z a b), biased_sum z b, to_z-of_z w32 (pos (biased z)) f)
