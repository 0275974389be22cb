-- The loops over the rows and columns of the points of a network: a stop, and the comparison with the floors. Assumes nothing.
use Rattle.std.specs.Prelude.{ℕ, ◌+◌, ◌*◌, ◌≤◌, ◌<◌, min, ◌≡◌, refl, Bool, true, false, List, length, set}
use Rattle.std.proofs.Common.{ap₂, ◌∙◌, true≢false, arith, get_or-set_same, get_or-set_other}
use Rattle.std.proofs.lemmas.Bool.{false≢true}
use Rattle.closure.specs.Cases.{by_eq, by_lt}
use Rattle.closure.specs.Matrix.{Matrix, entry, none, join, relax, floor, Everywhere, Stored, join_left, floor_same, floor_other}
use Rattle.closure.specs.Stops.{Floors}
use Rattle.closure.specs.Steps.{Fallen, Checked}

-- The entries of a lent row and of the row i are stored.
pub record StoredRows (n i : ℕ) (row : ℕ → ℕ) (D : Matrix) : Type 0 where
  pub lent : (j : ℕ) → j ≤ n → Stored (row j)
  pub own : (j : ℕ) → j ≤ n → Stored (D i j)

-- The row i of W is that of D, or by k and on along the lent row, where that is less; and the other rows are those of D.
pub record RowRelaxed (n k i : ℕ) (row : ℕ → ℕ) (D W : Matrix) : Type 0 where
  pub done : (j : ℕ) → j ≤ n → W i j ≡ min (D i j) (join (D i k) (row j))
  pub rest : Everywhere n (λ r j. (r ≡ i → ⊥) → W r j ≡ D r j)

-- Whether no entry of the row i is below its floor.
pub record RowChecked (n i : ℕ) (D : Matrix) (r : Bool) : Type 0 where
  pub good : r ≡ true → (j : ℕ) → j ≤ n → floor i j ≤ D i j
  pub bad : r ≡ false → Fallen n D

-- ---- the columns of a row at a stop

-- The columns below j of the row i of W are done, and all other entries are those of D.
pub record Columns (n k i j : ℕ) (row : ℕ → ℕ) (D W : Matrix) : Type 0 where
  pub done : (c : ℕ) → c < j → W i c ≡ min (D i c) (join (D i k) (row c))
  pub rest : (r c : ℕ) → c ≤ n → (r ≡ i → j ≤ c) → W r c ≡ D r c

pub columns_none : {n k i : ℕ} {row : ℕ → ℕ} {D : Matrix} → Columns n k i 0 row D D
columns_none = record { done = λ c l. absurd (omega arith); rest = λ r c l h. refl }

pub columns_more : (n k i j : ℕ) (row : ℕ → ℕ) (D : Matrix) (w : List ℕ) (x : ℕ) → n ≤ 40 → i ≤ n → j ≤ n → length w ≡ 1681 → Columns n k i j row D (entry w)
    → x ≡ min (D i j) (join (D i k) (row j)) → Columns n k i (j + 1) row D (entry (set w (41 * i + j) x))
columns_more n k i j row D w x ln li lj long h new =
    record {
      done = λ c l.
          by_eq c j
          (λ e. rw e (get_or-set_same w (41 * i + j) x 0 (omega arith) ∙ new))
          (λ other.
          get_or-set_other w (41 * i + j) (41 * i + c) x 0 (λ e. other (omega arith))
          ∙ h.done c (by_lt c j (λ k. k) (λ k. absurd (other (omega arith)))));
      rest = λ r c lc late.
          get_or-set_other w (41 * i + j) (41 * r + c) x 0
          (λ e.
          let same : r ≡ i = omega arith in
          omega (arith, late same))
          ∙ h.rest r c lc (λ e. omega (arith, late e));
    }

pub columns_all : {n k i j : ℕ} {row : ℕ → ℕ} {D W : Matrix} → j ≡ n + 1 → Columns n k i j row D W → RowRelaxed n k i row D W
columns_all e h =
    record {
      done = λ c l. h.done c (omega arith);
      rest = λ r c lr lc other. h.rest r c lc (λ same. absurd (other same));
    }

-- no path to the stop: the row stays
pub row_stays : (n k i : ℕ) (row : ℕ → ℕ) (D : Matrix) → StoredRows n i row D → D i k ≡ none → RowRelaxed n k i row D D
row_stays n k i row D s e =
    record {
      done = λ j l. let high = (s.own j l).high in rw e (rw (join_left (row j)) (omega arith));
      rest = λ r j lr lj other. refl;
    }

-- ---- the rows at a stop

-- The rows below i of W are those of D after the stop k, and the others are those of D.
pub record RowsRelaxed (n k i : ℕ) (D W : Matrix) : Type 0 where
  pub done : Everywhere n (λ r j. r < i → W r j ≡ relax D k r j)
  pub rest : Everywhere n (λ r j. i ≤ r → W r j ≡ D r j)

pub rows_none : {n k : ℕ} {D : Matrix} → RowsRelaxed n k 0 D D
rows_none = record { done = λ r j lr lj l. absurd (omega arith); rest = λ r j lr lj l. refl }

-- the lent row is that of the stop
module _ {n k i : ℕ} {row : ℕ → ℕ} {D W : Matrix} (few : n ≤ 40) (lk : k ≤ n) (lent : (j : ℕ) → j ≤ 40 → row j ≡ D k j) (h : RowsRelaxed n k i D W) where
  pub rows_stored : i ≤ n → Everywhere n (λ i j. Stored (D i j)) → StoredRows n i row W
  rows_stored li s =
      record {
        lent = λ j l. rw (lent j (omega arith)) (s k j lk l);
        own = λ j l. rw (h.rest i j li l (omega arith)) (s i j li l);
      }

  pub rows_more : {R : Matrix} → i ≤ n → RowRelaxed n k i row W R → RowsRelaxed n k (i + 1) D R
  rows_more {R} li new =
      record {
        done = λ r j lr lj l.
            by_eq r i
            (λ e.
            rw e
            (new.done j lj
            ∙ ap₂ min (h.rest i j li lj (omega arith)) (ap₂ join (h.rest i k li lk (omega arith)) (lent j (omega arith)))))
            (λ differ. new.rest r j lr lj differ ∙ h.done r j lr lj (by_lt r i (λ m. m) (λ m. absurd (differ (omega arith)))));
        rest = λ r j lr lj l. new.rest r j lr lj (λ e. omega arith) ∙ h.rest r j lr lj (omega arith);
      }

pub rows_all : {n k i : ℕ} {D W : Matrix} → n < i → RowsRelaxed n k i D W → Everywhere n (λ i j. W i j ≡ relax D k i j)
rows_all past h r j lr lj = h.done r j lr lj (omega arith)

-- ---- the comparison with the floors

-- an entry that is below the floor of its place
pub row_bad : {n i : ℕ} {D : Matrix} (j : ℕ) → i ≤ n → j ≤ n → D i j < floor i j → RowChecked n i D false
row_bad {i = i} j li lj low =
    record {
      good = λ e. absurd (false≢true e);
      bad = λ e. record { row = i; column = j; row_in = li; column_in = lj; low = low };
    }

pub row_good : (n i : ℕ) (D : Matrix) → 2000000 ≤ D i i → ((j : ℕ) → j ≤ n → 1000000 ≤ D i j) → RowChecked n i D true
row_good n i D same all =
    record {
      good = λ e j l. by_eq i j (λ e. rw (← e) (omega (arith, floor_same i))) (λ h. omega (arith, floor_other i j h, all j l));
      bad = λ e. absurd (true≢false e);
    }

pub checked_bad : {n : ℕ} {D : Matrix} → Fallen n D → Checked n D false
checked_bad h = record { good = λ e. absurd (false≢true e); bad = λ e. h }

pub checked_good : {n : ℕ} {D : Matrix} → Floors n D → Checked n D true
checked_good h = record { good = λ e. h; bad = λ e. absurd (true≢false e) }
