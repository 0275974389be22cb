-- The laws of what specs/Order defines.
use Rattle.std.specs.Prelude.{◌≡◌, refl, Bool, true, false, not, cond, ◌&&◌, ◌||◌, List, [], ◌∷◌, ◌↔◌, ◌⊎◌, ◌≢◌, ℕ, zero, suc, ◌+◌, ◌≤◌, ◌<◌, T, ltb, eqb}
use Rattle.std.proofs.Common.{sym, ap₂, subst, inl, inr, arith, ltb→lt, nltb→le, eqb→eq}
use mathlib.Core.List.Memᴰ
use Rattle.std.proofs.Math.Decide.{ℕ_discrete}
use Rattle.std.proofs.Math.Dec.{not_T, eqb_refl}
use Rattle.temporal.specs.Lists.{All, ◌∈◌}
use Rattle.temporal.proofs.Lists.{All-map, T-pair, T-false}
use Rattle.rings.specs.Order.{Before, First, any_upto, before, first_of, seek}

pub seek_first : (t : ℕ → Bool) (i n x : ℕ) → i ≤ x → x < i + n → T (t x) → First t i n (seek t i n)
unfolding seek
seek_first t i zero x l h p = absurd (omega arith)
seek_first t i (suc n) x l h p = step (t i) refl (λ q. seek_first t (suc i) n x q (omega arith) p)
  where
    next : t i ≡ false → (y : ℕ) → i ≤ y → T (t y) → suc i ≤ y
    next e y g q =
        let apart : y ≢ i = λ s. subst T e (subst (λ z. T (t z)) s q) in
        omega arith

    step : (b : Bool) → t i ≡ b → (suc i ≤ x → First t (suc i) n (seek t (suc i) n)) → First t i (suc n) (cond b i (seek t (suc i) n))
    step true e f = record { passes = subst T (sym e) tt; above = omega arith; below = omega arith; least = λ y g q. g }
    step false e f =
        let r = f (next e x l p) in
        record { passes = r.passes; above = omega (arith, r.above); below = omega (arith, r.below); least = λ y g q. r.least y (next e y g q) q }

-- it is the only one
pub seek_is : (t : ℕ → Bool) (i n e : ℕ) → First t i n e → seek t i n ≡ e
seek_is t i n e f =
    let g = seek_first t i n e f.above f.below f.passes in
    omega (arith, g.least e f.above f.passes, f.least (seek t i n) g.above g.passes)

-- no number passes
pub seek_none : (t : ℕ → Bool) (i n : ℕ) → ((x : ℕ) → i ≤ x → x < i + n → ¬ T (t x)) → seek t i n ≡ 0
unfolding seek
seek_none t i zero h = refl
seek_none t i (suc n) h =
    rw (T-false (t i) (not_T (t i) (h i (omega arith) (omega arith)))) (seek_none t (suc i) n (λ x l g. h x (omega arith) (omega arith)))

-- two tests that agree
pub seek_same : (t u : ℕ → Bool) (i n : ℕ) → ((x : ℕ) → i ≤ x → x < i + n → T (t x) ↔ T (u x)) → seek t i n ≡ seek u i n
unfolding seek
seek_same t u i zero h = refl
seek_same t u i (suc n) h = step (t i) (u i) (h i (omega arith) (omega arith)) (seek_same t u (suc i) n (λ x l g. h x (omega arith) (omega arith)))
  where
    step : (a b : Bool) → T a ↔ T b → seek t (suc i) n ≡ seek u (suc i) n → cond a i (seek t (suc i) n) ≡ cond b i (seek u (suc i) n)
    step true true g e = refl
    step true false g e = absurd (g.0 tt)
    step false true g e = absurd (g.1 tt)
    step false false g e = e

pub any_has : (t : ℕ → Bool) (n : ℕ) → T (any_upto t n) → (x : ℕ) × (x ≤ n) × T (t x)
unfolding any_upto
any_has t zero h = (0, omega arith, h)
any_has t (suc n) h = step (any_upto t n) (λ g. any_has t n g) h
  where
    step : (b : Bool) → (T b → (x : ℕ) × (x ≤ n) × T (t x)) → T (b || t (suc n)) → (x : ℕ) × (x ≤ suc n) × T (t x)
    step true f g =
        let r = f tt in
        (r.0, omega (arith, r.1), r.2)
    step false f g = (suc n, omega arith, g)

pub has_any : (t : ℕ → Bool) (n x : ℕ) → x ≤ n → T (t x) → T (any_upto t n)
unfolding any_upto
has_any t zero x l h =
    let e : x ≡ 0 = omega arith in
    subst (λ y. T (t y)) e h
has_any t (suc n) x l h = step (any_upto t n) (λ g. has_any t n x g h) (ℕ_discrete x (suc n))
  where
    step : (b : Bool) → (x ≤ n → T b) → Dec (x ≡ suc n) → T (b || t (suc n))
    step true f d = tt
    step false f (yes e) = subst (λ y. T (t y)) e h
    step false f (no a) = absurd (f (omega arith))

pub test_before : (a b : List ℕ) → T (before a b) → Before a b
test_before [] b t = tt
test_before (x ∷ xs) [] t = t
test_before (x ∷ xs) (y ∷ ys) t = step (ltb x y) (λ h. ltb→lt x y h) (λ h. test_before xs ys h) t
  where
    step : (c : Bool) → (T c → x < y) → (T (before xs ys) → Before xs ys) → T (c || (eqb x y && before xs ys)) → (x < y) ⊎ ((x ≡ y) × Before xs ys)
    step true f g h = inl (f tt)
    step false f g h =
        let r = T-pair (eqb x y) (before xs ys) h in
        inr (eqb→eq x y r.0, g r.1)

pub test_after : (a b : List ℕ) → T (not (before a b)) → Before b a
test_after [] b t = absurd t
test_after (x ∷ xs) [] t = tt
test_after (x ∷ xs) (y ∷ ys) t =
    step (ltb x y) (λ h. nltb→le x y h) (eqb x y) (λ h. eqb→eq x y h) (λ e. subst (λ z. T (eqb x z)) e (eqb_refl x)) (λ h. test_after xs ys h) t
  where
    step : (c : Bool) → (T (not c) → y ≤ x) → (d : Bool) → (T d → x ≡ y) → (x ≡ y → T d) → (T (not (before xs ys)) → Before ys xs)
        → T (not (c || (d && before xs ys))) → (y < x) ⊎ ((y ≡ x) × Before ys xs)
    step true f d g i r h = absurd h
    step false f true g i r h = inr (sym (g tt), r h)
    step false f false g i r h =
        let apart : x ≢ y = i in
        inl (omega (arith, f tt))

pub before_refl : (a : List ℕ) → Before a a
before_refl [] = tt
before_refl (x ∷ xs) = inr (refl, before_refl xs)

pub before_trans : (a b c : List ℕ) → Before a b → Before b c → Before a c
before_trans [] b c h g = tt
before_trans (x ∷ xs) [] c h g = absurd h
before_trans (x ∷ xs) (y ∷ ys) [] h g = absurd g
before_trans (x ∷ xs) (y ∷ ys) (z ∷ zs) (inl h) (inl g) = inl (omega arith)
before_trans (x ∷ xs) (y ∷ ys) (z ∷ zs) (inl h) (inr g) = inl (omega (arith, g.0))
before_trans (x ∷ xs) (y ∷ ys) (z ∷ zs) (inr h) (inl g) = inl (omega (arith, h.0))
before_trans (x ∷ xs) (y ∷ ys) (z ∷ zs) (inr h) (inr g) = inr (omega (arith, h.0, g.0), before_trans xs ys zs h.1 g.1)

pub before_antisym : (a b : List ℕ) → Before a b → Before b a → a ≡ b
before_antisym [] [] h g = refl
before_antisym [] (y ∷ ys) h g = absurd g
before_antisym (x ∷ xs) [] h g = absurd h
before_antisym (x ∷ xs) (y ∷ ys) (inl h) (inl g) = absurd (omega arith)
before_antisym (x ∷ xs) (y ∷ ys) (inl h) (inr g) = absurd (omega (arith, g.0))
before_antisym (x ∷ xs) (y ∷ ys) (inr h) (inl g) = absurd (omega (arith, h.0))
before_antisym (x ∷ xs) (y ∷ ys) (inr h) (inr g) = ap₂ ◌∷◌ h.0 (before_antisym xs ys h.1 g.1)

first_of_is : (a : List ℕ) (cs : List (List ℕ)) → (first_of (a ∷ cs) ∈ (a ∷ cs)) × All (Before (first_of (a ∷ cs))) (a ∷ cs)
unfolding first_of
first_of_is a [] = (Memᴰ.head refl, (before_refl a, tt))
first_of_is a (b ∷ bs) = step (before a m) (λ t. test_before a m t) (λ t. test_after a m t) (first_of_is b bs)
  where
    m : List ℕ
    m = first_of (b ∷ bs)

    step : (t : Bool) → (T t → Before a m) → (T (not t) → Before m a) → (m ∈ (b ∷ bs)) × All (Before m) (b ∷ bs)
        → (cond t a m ∈ (a ∷ b ∷ bs)) × All (Before (cond t a m)) (a ∷ b ∷ bs)
    step true f g r = (Memᴰ.head refl, (before_refl a, All-map (λ c h. before_trans a m c (f tt) h) (b ∷ bs) r.1))
    step false f g r = (Memᴰ.tail r.0, (g tt, r.1))

pub first_of_first : (cs : List (List ℕ)) {a : List ℕ} → a ∈ cs → (first_of cs ∈ cs) × All (Before (first_of cs)) cs
first_of_first [] m = absurd (Memᴰ.not-nil m)
first_of_first (b ∷ bs) m = first_of_is b bs
