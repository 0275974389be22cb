-- Numbers of q-th parts rounded to whole ones, in q ways. The q roundings of a number add up to it: Hermite's identity, `hermite`. Rests on `network`'s sums.
use Rattle.std.specs.Prelude.{ℕ, ◌+◌, ◌/◌}

-- ---- rounding

-- x q-th parts and s more, rounded down
unfoldable pub round : ℕ → ℕ → ℕ → ℕ
round q s x = (x + s) / q
