-- Rows of numbers, one after the other, by row and column, and at the start of an output. Assumes nothing.
use Rattle.std.specs.Prelude.{ℕ, zero, suc, ◌+◌, ◌*◌, ◌-◌, ◌≤◌, ◌<◌, ◌≡◌, refl, List, ◌++◌, ℤ, pos, length, get_or, drop}
use Rattle.std.proofs.Common.{sym, ap, ap₂, ◌∙◌, suc-mul, mul-le-mul_right, arith, length-append, get_or-append-add, get_or-drop}
use Rattle.std.proofs.Math.ListN.{get_or-append}
use Rattle.temporal.specs.Lists.{tab}
use Rattle.temporal.proofs.Lists.{length_tab, get_d_tab, tab_cong}
use Rattle.temporal.specs.Table.{rows}

pub length_rows : (w m : ℕ) (f : ℕ → ℕ → ℤ) → length (rows w m f) ≡ m * w
length_rows w zero f = omega arith
length_rows w (suc m) f =
    length-append (tab w (f 0)) (rows w m (λ i. f (suc i)))
    ∙ omega (arith, length_tab w (f 0), length_rows w m (λ i. f (suc i)), suc-mul m w)

-- row i, column j
pub rows_at : (w m : ℕ) (f : ℕ → ℕ → ℤ) (i j : ℕ) → i < m → j < w → get_or (rows w m f) (i * w + j) (pos 0) ≡ f i j
rows_at w zero f i j li lj = absurd (omega arith)
rows_at w (suc m) f zero j li lj =
    let here : 0 * w + j ≡ j = omega arith in
    rw here
    (get_or-append (tab w (f 0)) (rows w m (λ i. f (suc i))) (pos 0) j (omega (arith, length_tab w (f 0)))
    ∙ get_d_tab w (f 0) (pos 0) j lj)
rows_at w (suc m) f (suc i) j li lj =
    let next : suc i * w + j ≡ length (tab w (f 0)) + (i * w + j) = omega (arith, suc-mul i w, length_tab w (f 0)) in
    rw next
    (get_or-append-add (tab w (f 0)) (rows w m (λ i. f (suc i))) (i * w + j) (pos 0)
    ∙ rows_at w m (λ i. f (suc i)) i j (omega arith) lj)

pub rows_cong : (w m : ℕ) (f g : ℕ → ℕ → ℤ) → ((i j : ℕ) → i < m → j < w → f i j ≡ g i j) → rows w m f ≡ rows w m g
rows_cong w zero f g h = refl
rows_cong w (suc m) f g h =
    ap₂ ◌++◌ (tab_cong w (f 0) (g 0) (λ j l. h 0 j (omega arith) l)) (rows_cong w m (λ i. f (suc i)) (λ i. g (suc i)) (λ i j l r. h (suc i) j (omega arith) r))

-- w rows at the start of an output, and what it holds beyond them
module _ (w : ℕ) (f : ℕ → ℕ → ℤ) (out : List ℤ) where
  pub rows_first : (i j : ℕ) → i < w → j < w → get_or (rows w w f ++ drop (w * w) out) (i * w + j) (pos 0) ≡ f i j
  rows_first i j li lj =
      get_or-append (rows w w f) (drop (w * w) out) (pos 0) (i * w + j) (omega (arith, length_rows w w f, mul-le-mul_right w li, suc-mul i w))
      ∙ rows_at w w f i j li lj

  pub rows_beyond : (p : ℕ) → w * w ≤ p → get_or (rows w w f ++ drop (w * w) out) p (pos 0) ≡ get_or out p (pos 0)
  rows_beyond p l =
      let split : w * w + (p - w * w) ≡ p = omega arith in
      rw split at
      (ap (λ q. get_or (rows w w f ++ drop (w * w) out) (q + (p - w * w)) (pos 0)) (sym (length_rows w w f))
      ∙ get_or-append-add (rows w w f) (drop (w * w) out) (p - w * w) (pos 0)
      ∙ get_or-drop (w * w) out (p - w * w) (pos 0))
