-- The entries before any rule, stored point by point over entries with no path. Assumes nothing.
use Rattle.std.specs.Prelude.{ℕ, ◌+◌, ◌*◌, ◌≤◌, ◌<◌, ◌≡◌, List, length, get_or, set, replicate}
use Rattle.std.proofs.Common.{sym, ◌∙◌, arith, length-set, get_or-set_same, get_or-set_other}
use Rattle.std.proofs.lemmas.List.{length-replicate, get_or-replicate}
use Rattle.closure.specs.Cases.{by_eq, by_lt}
use Rattle.closure.specs.Signed.{bias}
use Rattle.closure.specs.Matrix.{entry, none, Everywhere}
use Rattle.closure.specs.Start.{plain, plain_same, plain_origin, plain_horizon, plain_none}

-- An array of 41 rows of 41 entries with no path.
pub record Pathless (w : List ℕ) : Type 0 where
  pub long : length w ≡ 1681
  pub at : (q : ℕ) → q < 1681 → get_or w q 0 ≡ none

pub pathless_all : Pathless (replicate 1681 none)
pathless_all = record { long = length-replicate 1681 none; at = λ q l. get_or-replicate 1681 q none 0 l }

-- The entries between the points below i are stored, and the others have no path.
pub record Points (h i : ℕ) (w : List ℕ) : Type 0 where
  pub long : length w ≡ 1681
  pub done : Everywhere 40 (λ r c. r < i → c < i → entry w r c ≡ plain h r c)
  pub rest : Everywhere 40 (λ r c. (r < i → c < i → ⊥) → entry w r c ≡ none)

pub points_none : {h : ℕ} {w : List ℕ} → Pathless w → Points h 0 w
points_none e =
    record {
      long = e.long;
      done = λ r c lr lc l. absurd (omega arith);
      rest = λ r c lr lc apart. e.at (41 * r + c) (omega arith);
    }

pub points_all : {h i : ℕ} {w : List ℕ} → 40 < i → Points h i w → Everywhere 40 (λ r c. entry w r c ≡ plain h r c)
points_all past e r c lr lc = e.done r c lr lc (omega arith) (omega arith)

stored_at : (w : List ℕ) (p q x : ℕ) → length w ≡ 1681 → p < 1681 → q ≡ p → get_or (set w p x) q 0 ≡ x
stored_at w p q x long l e = rw e (get_or-set_same w p x 0 (omega arith))

-- One more point: from point 0 to it, from it to point 0, and from it to itself.
module _ (h i : ℕ) (w : List ℕ) (l : i ≤ 40) (e : Points h i w) where
  abbrev first : List ℕ
  first = set w i (bias + h)

  abbrev second : List ℕ
  second = set first (41 * i) bias

  abbrev third : List ℕ
  third = set second (41 * i + i) bias

  first_long : length first ≡ 1681
  first_long = length-set w i (bias + h) ∙ e.long

  second_long : length second ≡ 1681
  second_long = length-set first (41 * i) bias ∙ first_long

  stays : (q : ℕ) → (q ≡ i → ⊥) → (q ≡ 41 * i → ⊥) → (q ≡ 41 * i + i → ⊥) → get_or third q 0 ≡ get_or w q 0
  stays q f s t =
      get_or-set_other second (41 * i + i) q bias 0 t
      ∙ get_or-set_other first (41 * i) q bias 0 s
      ∙ get_or-set_other w i q (bias + h) 0 f

  done_more : Everywhere 40 (λ r c. r < i + 1 → c < i + 1 → entry third r c ≡ plain h r c)
  done_more r c lr lc br bc =
      by_eq r i
      (λ (er : r ≡ i). by_eq c i
      (λ (ec : c ≡ i). stored_at second (41 * i + i) (41 * r + c) bias second_long (omega arith) (omega arith) ∙ sym (rw (er, ec) (plain_same h i)))
      (λ nc. by_eq c 0
      (λ (ec : c ≡ 0).
      get_or-set_other second (41 * i + i) (41 * r + c) bias 0 (λ q. nc (omega arith))
      ∙ stored_at first (41 * i) (41 * r + c) bias first_long (omega arith) (omega arith)
      ∙ sym (rw ec (plain_origin h r)))
      (λ zc.
      stays (41 * r + c) (λ q. zc (omega arith)) (λ q. zc (omega arith)) (λ q. nc (omega arith))
      ∙ e.rest r c lr lc (λ a b. omega arith)
      ∙ sym (plain_none h r c (λ q. nc (omega arith)) zc (λ q. zc (omega arith))))))
      (λ nr. by_eq c i
      (λ (ec : c ≡ i). by_eq r 0
      (λ (er : r ≡ 0).
      get_or-set_other second (41 * i + i) (41 * r + c) bias 0 (λ q. nr (omega arith))
      ∙ get_or-set_other first (41 * i) (41 * r + c) bias 0 (λ q. nr (omega arith))
      ∙ stored_at w i (41 * r + c) (bias + h) e.long (omega arith) (omega arith)
      ∙ sym (rw er (plain_horizon h c (λ q. nr (omega arith)))))
      (λ zr.
      stays (41 * r + c) (λ q. zr (omega arith)) (λ q. nr (omega arith)) (λ q. nr (omega arith))
      ∙ e.rest r c lr lc (λ a b. omega arith)
      ∙ sym (plain_none h r c (λ q. nr (omega arith)) (λ q. zr (omega arith)) zr)))
      (λ nc.
      let cr : r < i = by_lt r i (λ m. m) (λ m. absurd (nr (omega arith))) in
      let cc : c < i = by_lt c i (λ m. m) (λ m. absurd (nc (omega arith))) in
      stays (41 * r + c) (λ q. nc (omega arith)) (λ q. nr (omega arith)) (λ q. nr (omega arith))
      ∙ e.done r c lr lc cr cc))

  pub points_more : Points h (i + 1) third
  points_more =
      record {
        long = length-set second (41 * i + i) bias ∙ second_long;
        done = done_more;
        rest = λ r c lr lc apart.
            stays (41 * r + c)
            (λ q. apart (omega arith) (omega arith)) (λ q. apart (omega arith) (omega arith)) (λ q. apart (omega arith) (omega arith))
            ∙ e.rest r c lr lc (λ a b. apart (omega arith) (omega arith));
      }
