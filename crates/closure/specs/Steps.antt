-- What the loops promise of their arrays. Definitions only. Assumes nothing.
use Rattle.std.specs.Prelude.{ℕ, suc, ◌+◌, ◌*◌, ◌≤◌, ◌<◌, ◌≡◌, Bool, true, false, List, ℤ, pos, length, get_or}
use Rattle.closure.specs.Matrix.{Matrix, shown, floor, Everywhere}
use Rattle.closure.specs.Stops.{after, Floors, AboveFloors}
use Rattle.closure.specs.Meaning.{Carried}

-- Row i, column j of a table of n + 1 columns.
abbrev pub cell : ℕ → List ℤ → ℕ → ℕ → ℤ
cell n out i j = get_or out (i * (n + 1) + j) (pos 0)

-- An entry of two points of the network that is below its floor.
pub record Fallen (n : ℕ) (D : Matrix) : Type 0 where
  pub row : ℕ
  pub column : ℕ
  pub row_in : row ≤ n
  pub column_in : column ≤ n
  pub low : D row column < floor row column

pub record Checked (n : ℕ) (D : Matrix) (r : Bool) : Type 0 where
  pub good : r ≡ true → Floors n D
  pub bad : r ≡ false → Fallen n D

-- The first stop after which an entry is below its floor.
pub record Stopped (n : ℕ) (D : Matrix) : Type 0 where
  pub stop : ℕ
  pub stop_in : stop ≤ n
  pub before : AboveFloors n D stop
  pub fallen : Fallen n (after n D (suc stop))

-- All stops were taken and the entries are R, the shortest paths if D were those by no stops; or an entry fell below its floor on the way.
pub record Closed (n : ℕ) (D R : Matrix) (r : Bool) : Type 0 where
  pub kept : r ≡ true → AboveFloors n D (n + 1)
  pub entries : r ≡ true → Everywhere n (λ i j. R i j ≡ after n D (n + 1) i j)
  pub shortest : r ≡ true → Carried n 0 D (n + 1) R
  pub stopped : r ≡ false → Stopped n D

-- The entries D are written to an output.
pub record Written (n : ℕ) (D : Matrix) (before after : List ℤ) : Type 0 where
  pub long : length after ≡ length before
  pub cells : Everywhere n (λ i j. cell n after i j ≡ shown (D i j))
  pub beyond : (p : ℕ) → (n + 1) * (n + 1) ≤ p → get_or after p (pos 0) ≡ get_or before p (pos 0)
