-- The law of clearing the scratch: that the first numbers do not count. `zeroed` itself stands in `runs`.
use Rattle.std.specs.Prelude.{◌≡◌, List, ◌++◌, ℕ, ◌+◌, ◌-◌, ◌≤◌, length, drop, replicate}
use Rattle.std.proofs.Common.{sym, ap, ◌∙◌, arith, drop-drop}
use Rattle.std.proofs.Math.Seq.{drop-append-add}
use Rattle.runs.specs.Calls.{zeroed}

-- the list past its first n numbers
unfoldable pub past : ℕ → List ℕ → List ℕ
past n xs = drop n xs

-- only those count
pub zeroed_rest : (n : ℕ) (xs ys : List ℕ) → past n xs ≡ past n ys → zeroed n xs ≡ zeroed n ys
unfolding zeroed past
zeroed_rest n xs ys e = ap (λ zs. replicate n 0 ++ zs) e

-- where the first m numbers are lent and come back, and m is at most n
pub past_part : (n m : ℕ) (xs ys : List ℕ) → m ≤ n → length ys ≡ m → past n (ys ++ drop m xs) ≡ past n xs
unfolding past
past_part n m xs ys l e =
    let k : m + (n - m) ≡ n = omega arith in
    ap (λ j. drop j (ys ++ drop m xs)) (sym k ∙ ap (λ j. j + (n - m)) (sym e))
    ∙ drop-append-add ys (drop m xs) (n - m)
    ∙ drop-drop (n - m) m xs
    ∙ ap (λ j. drop j xs) k
