-- The writing of the table, row by row. Assumes nothing.
use Rattle.std.specs.Prelude.{ℕ, ◌+◌, ◌*◌, ◌≤◌, ◌<◌, ◌≡◌, refl, List, ℤ, pos, length, get_or, set}
use Rattle.std.proofs.Common.{ap, ◌∙◌, mul-le-mul, mul-le-mul_right, add-mul, arith, length-set, get_or-set_same, get_or-set_other}
use Rattle.closure.specs.Cases.{by_lt, by_eq}
use Rattle.closure.specs.Matrix.{Matrix, shown, Everywhere}
use Rattle.closure.specs.Steps.{cell, Written}

-- ---- rows of n + 1 numbers, one after the other

row_next : (n i : ℕ) → (i + 1) * (n + 1) ≡ i * (n + 1) + (n + 1)
row_next n i = omega (arith, add-mul i 1 (n + 1))

pub flat_below : (n i j : ℕ) → i ≤ n → j ≤ n → i * (n + 1) + j < (n + 1) * (n + 1)
flat_below n i j li lj = omega (arith, mul-le-mul_right (n + 1) li, row_next n n)

pub square : (n : ℕ) → n ≤ 40 → (n + 1) * (n + 1) ≤ 1681
square n l = mul-le-mul {n₁ = n + 1} {m₁ = n + 1} {n₂ = 41} {m₂ = 41} (omega arith) (omega arith)

-- rows do not overlap
row_apart : (n i i' j j' : ℕ) → i < i' → j ≤ n → i * (n + 1) + j < i' * (n + 1) + j'
row_apart n i i' j j' l lj =
    let up : i + 1 ≤ i' = omega arith in
    omega (arith, mul-le-mul_right (n + 1) up, row_next n i)

flat_apart : (n i i' j j' : ℕ) → j ≤ n → j' ≤ n → (i ≡ i' → j ≡ j' → ⊥) → i * (n + 1) + j ≡ i' * (n + 1) + j' → ⊥
flat_apart n i i' j j' lj lj' differ e =
    by_lt i i'
    (λ l. omega (arith, row_apart n i i' j j' l lj))
    (λ l. by_lt i' i
    (λ k. omega (arith, row_apart n i' i j' j k lj'))
    (λ k.
    let same : i ≡ i' = omega arith in
    differ same (omega (arith, ap (λ r. r * (n + 1)) same))))

-- ---- the loop over the columns of a row

-- The entries of the row i in the columns below j are written, and no other number has changed.
pub record RowWritten (n i j : ℕ) (D : Matrix) (before after : List ℤ) : Type 0 where
  pub long : length after ≡ length before
  pub row : (c : ℕ) → c < j → cell n after i c ≡ shown (D i c)
  pub rest : (q : ℕ) → ((c : ℕ) → c < j → q ≡ i * (n + 1) + c → ⊥) → get_or after q (pos 0) ≡ get_or before q (pos 0)

pub row_none : {n i : ℕ} {D : Matrix} {before : List ℤ} → RowWritten n i 0 D before before
row_none = record { long = refl; row = λ c l. absurd (omega arith); rest = λ q apart. refl }

pub row_more : (n i j : ℕ) (D : Matrix) (before out : List ℤ) → n ≤ 40 → 1681 ≤ length before → i ≤ n → j ≤ n → RowWritten n i j D before out
    → RowWritten n i (j + 1) D before (set out (i * (n + 1) + j) (shown (D i j)))
row_more n i j D before out ln lb li lj h =
    let f = i * (n + 1) + j in
    let v = shown (D i j) in
    let below = flat_below n i j li lj in
    let small = square n ln in
    let long = h.long in
    record {
      long = length-set out f v ∙ h.long;
      row = λ c l.
          by_eq c j
          (λ e. rw e (get_or-set_same out f v (pos 0) (omega arith)))
          (λ other.
          get_or-set_other out f (i * (n + 1) + c) v (pos 0) (λ e. other (omega arith))
          ∙ h.row c (by_lt c j (λ k. k) (λ k. absurd (other (omega arith)))));
      rest = λ q apart.
          get_or-set_other out f q v (pos 0) (λ e. apart j (omega arith) e)
          ∙ h.rest q (λ c l e. apart c (omega arith) e);
    }

-- ---- the loop over the rows

-- The entries of the first i rows are written.
pub record Writing (n : ℕ) (D : Matrix) (before after : List ℤ) (i : ℕ) : Type 0 where
  pub long : length after ≡ length before
  pub cells : Everywhere n (λ r j. r < i → cell n after r j ≡ shown (D r j))
  pub beyond : (q : ℕ) → (n + 1) * (n + 1) ≤ q → get_or after q (pos 0) ≡ get_or before q (pos 0)

pub writing_none : {n : ℕ} {D : Matrix} {before : List ℤ} → Writing n D before before 0
writing_none = record { long = refl; cells = λ r j lr lj l. absurd (omega arith); beyond = λ q l. refl }

pub writing_more : {n i : ℕ} {D : Matrix} {before mid after : List ℤ} → i ≤ n → Writing n D before mid i → RowWritten n i (n + 1) D mid after
    → Writing n D before after (i + 1)
writing_more {n} {i} li h new =
    record {
      long = new.long ∙ h.long;
      cells = λ r j lr lj l.
          by_eq r i
          (λ e. rw e (new.row j (omega arith)))
          (λ other.
          new.rest (r * (n + 1) + j) (λ c lc. flat_apart n r i j c lj (omega arith) (λ a b. other a))
          ∙ h.cells r j lr lj (by_lt r i (λ k. k) (λ k. absurd (other (omega arith)))));
      beyond = λ q l.
          new.rest q (λ c lc e. omega (arith, flat_below n i c li (omega arith)))
          ∙ h.beyond q l;
    }

pub writing_all : {n i : ℕ} {D : Matrix} {before after : List ℤ} → n < i → Writing n D before after i → Written n D before after
writing_all past h =
    record { long = h.long; cells = λ r j lr lj. h.cells r j lr lj (omega arith); beyond = h.beyond }
