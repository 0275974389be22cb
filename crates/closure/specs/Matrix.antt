-- Tables of working entries. An entry is a true number plus 2,000,000, or `none` where there is no path yet. Assumes nothing.
use Rattle.std.specs.Prelude.{ℕ, ◌+◌, ◌*◌, ◌-◌, ◌≤◌, ◌<◌, min, ◌≡◌, refl, cond, List, ◌⊎◌, ◌≢◌, eqb, ℤ, pos, get_or}
use Rattle.std.proofs.Common.{inl, inr, arith, SFits, eq-eqb, ne_eqb}
use Rattle.std.specs.Int.{w32}
use Rattle.closure.specs.Cases.{by_eq, by_lt}
use Rattle.closure.specs.Signed.{bias, lower, lower_fits}

abbrev pub Matrix : Type 0
Matrix = ℕ → ℕ → ℕ

-- Row i, column j of an array of 41 rows of 41 entries.
abbrev pub entry : List ℕ → Matrix
entry w i j = get_or w (41 * i + j) 0

abbrev pub none : ℕ
none = 9000000000000000000

-- What the output says of an entry: the true number, or the largest that it can hold where there is no path yet.
abbrev pub no_path : ℤ
no_path = pos 2147483647

unfoldable pub shown : ℕ → ℤ
shown x = cond (eqb x none) no_path (lower x)

-- A path of two parts.
unfoldable pub join : ℕ → ℕ → ℕ
join a b = cond (eqb a none) none (cond (eqb b none) none (a + b - bias))

-- The stop k: a path from i to j may also go through k.
abbrev pub relax : Matrix → ℕ → Matrix
relax D k i j = min (D i j) (join (D i k) (D k j))

-- What an entry of a network with a schedule is at least: a true 0 on the diagonal, and -1,000,000 elsewhere.
unfoldable pub floor : ℕ → ℕ → ℕ
floor i j = cond (eqb i j) 2000000 1000000

-- Of the points 0 to n: what holds of every two of them.
abbrev pub Everywhere : ℕ → (ℕ → ℕ → Type 0) → Type 0
Everywhere n P = (i j : ℕ) → i ≤ n → j ≤ n → P i j

-- Entries from -1,000,000 up, or none.
pub record Stored (x : ℕ) : Type 0 where
  pub low : 1000000 ≤ x
  pub high : x ≤ none

-- The entry r is that of the path whose parts have the entries a and b.
pub record Through (r a b : ℕ) : Type 0 where
  pub first : a < none
  pub second : b < none
  pub total : r + bias ≡ a + b

-- ---- laws

pub shown_none : shown none ≡ no_path
unfolding shown
shown_none = refl

pub shown_some : (x : ℕ) → x ≢ none → shown x ≡ lower x
unfolding shown
shown_some x h = rw (ne_eqb x none h)

pub shown_fits : (x : ℕ) → (x ≢ none → x ≤ 43000000) → SFits w32 (shown x)
shown_fits x h =
    by_eq x none
    (λ e. rw (e, shown_none) (record { sfits = omega arith }))
    (λ n. rw (shown_some x n) (lower_fits x (h n)))

pub floor_same : (i : ℕ) → floor i i ≡ 2000000
unfolding floor
floor_same i = rw (eq-eqb i i refl)

pub floor_other : (i j : ℕ) → (i ≡ j → ⊥) → floor i j ≡ 1000000
unfolding floor
floor_other i j h = rw (ne_eqb i j h)

pub floor_low : (i j : ℕ) → 1000000 ≤ floor i j
floor_low i j = by_eq i j (λ e. rw e (omega (arith, floor_same j))) (λ h. omega (arith, floor_other i j h))

pub join_left : (b : ℕ) → join none b ≡ none
unfolding join
join_left b = refl

pub join_right : (a : ℕ) → join a none ≡ none
unfolding join
join_right a = by_eq a none (λ e. rw (eq-eqb a none e)) (λ h. rw (ne_eqb a none h))

pub join_both : (a b : ℕ) → a < none → b < none → join a b ≡ a + b - bias
unfolding join
join_both a b h k = rw (ne_eqb a none (λ e. omega arith), ne_eqb b none (λ e. omega arith))

-- An entry x from i to j, and entries a from i to k and b from k to j.
module _ (x a b : ℕ) (sx : Stored x) (sa : Stored a) (sb : Stored b) where
  join_cases : {A : Type 0} → ((a ≡ none) ⊎ (b ≡ none) → join a b ≡ none → A) → (a < none → b < none → join a b ≡ a + b - bias → A) → A
  join_cases f g =
      by_eq a none
      (λ e. f (inl e) (rw e (join_left b)))
      (λ h. by_eq b none
      (λ e. f (inr e) (rw e (join_right a)))
      (λ k.
      let la : a < none = by_lt a none (λ l. l) (λ l. absurd (h (omega arith))) in
      let lb : b < none = by_lt b none (λ l. l) (λ l. absurd (k (omega arith))) in
      g la lb (join_both a b la lb)))

  -- the new entry is not above the old one, nor above the path by k; and it is one of the two
  pub relax_via : a < none → b < none → min x (join a b) + bias ≤ a + b
  relax_via la lb = omega (arith, join_both a b la lb)

  pub relax_from : (min x (join a b) ≡ x) ⊎ Through (min x (join a b)) a b
  relax_from =
      join_cases
      (λ w e. inl (omega arith))
      (λ la lb e. by_lt (a + b - bias) x (λ l. inr (record { first = la; second = lb; total = omega arith })) (λ l. inl (omega arith)))
