-- What is lent to a call, and what it must hold afterwards.
use Rattle.std.specs.Prelude.{◌≡◌, ℕ, ◌<◌, min, Bool, true, cond, List, ◌++◌, length, take, drop, replicate, ◌==◌, nat_lt, slice_index}

-- the answer is true where P holds, and only there
pub record Decides (answer : Bool) (P : Type 0) : Type 0 where
  pub sound : answer ≡ true → P
  pub whole : P → answer ≡ true

-- an output as it is lent: 2,048 bytes, all 7
unfoldable pub untouched : List ℕ
untouched = replicate 2048 7

-- an output with the first n bytes at its start, and after them what it held
abbrev pub front : ℕ → List ℕ → List ℕ → List ℕ
front n bytes out = take n bytes ++ drop n out

-- an output with the bytes at its start, as far as there is room
unfoldable pub holding : List ℕ → List ℕ → List ℕ
holding bytes out = front (min (length bytes) (length out)) bytes out

-- 01 "Network, table, plan": after every answer but 10 the first 2,400 scratch numbers are 0, the rest untouched; scratch is lent with 7 everywhere
unfoldable pub left_at : ℕ → ℕ → ℕ
left_at number i = cond (number == 10) 7 (cond (nat_lt i 2400) 0 7)

abbrev pub Cleared : ℕ → List ℕ → Type 0
Cleared number scratch = (i : ℕ) → i < length scratch → slice_index scratch i ≡ left_at number i
