-- The definitions at work, on bytes, as one table: a ticket, the mended one and the list, whatever outputs of 1,584 and 514 bytes or more are lent. P1 of 01
-- has a schedule and comes out as it is; P6 with the bound 0 loses its second rule, and keeps one after it whose ring sums to 0; P7 with the bound -11 loses its
-- only one.
use Rattle.std.specs.Prelude.{ℕ, ◌≤◌, ◌≡◌, List, [], ◌∷◌, length}
use Rattle.mending.specs.Mending.{writing, mending}

-- ---- the table

pub record Example : Type 0 where
  pub ticket : List ℕ
  pub mended : List ℕ
  pub list : List ℕ

abbrev pub bytes1 : List ℕ
bytes1 =
    20 ∷ 0 ∷ 0 ∷ 0 ∷ 2 ∷ 0 ∷ 0 ∷ 2 ∷ 6 ∷ 0
    ∷ 0 ∷ 1 ∷ 15 ∷ 0 ∷ 0 ∷ 0
    ∷ 1 ∷ 0 ∷ 251 ∷ 255 ∷ 255 ∷ 255
    ∷ 0 ∷ 2 ∷ 20 ∷ 0 ∷ 0 ∷ 0
    ∷ 2 ∷ 0 ∷ 248 ∷ 255 ∷ 255 ∷ 255
    ∷ 1 ∷ 2 ∷ 4 ∷ 0 ∷ 0 ∷ 0
    ∷ 2 ∷ 1 ∷ 2 ∷ 0 ∷ 0 ∷ 0
    ∷ []

-- "1 to 2: -1", "2 to 1: 0" and "2 to 1: 1", the horizon 10
abbrev pub bytes6 : List ℕ
bytes6 =
    10 ∷ 0 ∷ 0 ∷ 0 ∷ 2 ∷ 0 ∷ 3 ∷ 3 ∷ 3 ∷ 0
    ∷ 1 ∷ 2 ∷ 255 ∷ 255 ∷ 255 ∷ 255
    ∷ 2 ∷ 1 ∷ 0 ∷ 0 ∷ 0 ∷ 0
    ∷ 2 ∷ 1 ∷ 1 ∷ 0 ∷ 0 ∷ 0
    ∷ []

abbrev mended6 : List ℕ
mended6 =
    10 ∷ 0 ∷ 0 ∷ 0 ∷ 2 ∷ 0 ∷ 3 ∷ 3 ∷ 2 ∷ 0
    ∷ 1 ∷ 2 ∷ 255 ∷ 255 ∷ 255 ∷ 255
    ∷ 2 ∷ 1 ∷ 1 ∷ 0 ∷ 0 ∷ 0
    ∷ []

abbrev pub bytes7 : List ℕ
bytes7 =
    10 ∷ 0 ∷ 0 ∷ 0 ∷ 1 ∷ 0 ∷ 3 ∷ 1 ∷ 0
    ∷ 1 ∷ 0 ∷ 245 ∷ 255 ∷ 255 ∷ 255
    ∷ []

abbrev mended7 : List ℕ
mended7 = 10 ∷ 0 ∷ 0 ∷ 0 ∷ 1 ∷ 0 ∷ 3 ∷ 0 ∷ 0 ∷ []

abbrev pub examples : List Example
examples =
    record { ticket = bytes1; mended = bytes1; list = 0 ∷ 0 ∷ [] }
    ∷ record { ticket = bytes6; mended = mended6; list = 1 ∷ 0 ∷ 2 ∷ 0 ∷ [] }
    ∷ record { ticket = bytes7; mended = mended7; list = 1 ∷ 0 ∷ 1 ∷ 0 ∷ [] }
    ∷ []

-- the mended ticket and the list stand at the start of the outputs, and their lengths are returned
abbrev pub Holds : Example → Type 0
Holds x = (out list : List ℕ) → 1584 ≤ length out → 514 ≤ length list → mending x.ticket out list ≡ writing x.mended x.list out list
