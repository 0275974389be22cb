-- The laws of what specs/Lists defines.
use Rattle.std.specs.Prelude.{◌≡◌, ◌⊎◌, ◌≢◌, Bool, not, ◌&&◌, length, get_or, set, leb, eqb}
use Rattle.std.proofs.Math.Path.{refl, ap, ap₂, subst}
use Rattle.std.proofs.Common.{sym, inl, inr, ⊎_elim, le_of_lt, T_not, leb→le, eqb→eq}
use Rattle.std.proofs.Math.Bool.{true, false, cond}
use mathlib.Core.List.{List, [], ◌∷◌, ◌++◌, map}
use mathlib.Core.List.Memᴰ
use mathlib.Core.List.{Memᴰ}
use Prim.Native.Nat.{ℕ, zero, suc, ◌≤◌, ◌<◌, max}
use native.Mathlib.Omega.{arith}
use Rattle.std.proofs.Math.Nat.{max-eq_left, max-eq_right}
use Rattle.std.proofs.Math.Dec.{T, nleb→lt, eqb_refl}
use Rattle.temporal.specs.Lists.{All, all, each, keep, largest, tab, tuples, upto, ◌∈◌}

-- ---- Booleans

pub pair-T : (a b : Bool) → T a → T b → T (a && b)
pair-T true b x y = y
pair-T false b x y = x

pub T-pair : (a b : Bool) → T (a && b) → T a × T b
T-pair true b h = (tt, h)
T-pair false b h = absurd h

pub by_test : (b : Bool) → T b ⊎ T (not b)
by_test true = inl tt
by_test false = inr tt

pub T-true : (b : Bool) → T b → b ≡ true
T-true true h = refl
T-true false h = absurd h

pub T-false : (b : Bool) → T (not b) → b ≡ false
T-false true h = absurd h
T-false false h = refl

-- tests of which each implies the other
pub iff_same : (a b : Bool) → (T a → T b) → (T b → T a) → a ≡ b
iff_same true true f g = refl
iff_same true false f g = absurd (f tt)
iff_same false true f g = absurd (g tt)
iff_same false false f g = refl

pub one_most : (b : Bool) → cond b 1 0 ≤ 1
one_most true = omega arith
one_most false = omega arith

-- ---- what holds of every element of a list

module _ {A : Type 0} where
  pub All-map : {P Q : A → Type 0} → ((x : A) → P x → Q x) → (xs : List A) → All P xs → All Q xs
  All-map f [] h = tt
  All-map f (x ∷ xs) h = (f x h.0, All-map f xs h.1)

  pub All-map₂ : {P Q R : A → Type 0} → ((x : A) → P x → Q x → R x) → (xs : List A) → All P xs → All Q xs → All R xs
  All-map₂ f [] h k = tt
  All-map₂ f (x ∷ xs) h k = (f x h.0 k.0, All-map₂ f xs h.1 k.1)

  pub test-All : (p : A → Bool) {P : A → Type 0} → ((x : A) → T (p x) → P x) → (xs : List A) → T (all p xs) → All P xs
  test-All p f [] h = tt
  test-All p f (x ∷ xs) h = (f x (T-pair (p x) (all p xs) h).0, test-All p f xs (T-pair (p x) (all p xs) h).1)

  pub All-test : (p : A → Bool) {P : A → Type 0} → ((x : A) → P x → T (p x)) → (xs : List A) → All P xs → T (all p xs)
  All-test p f [] h = tt
  All-test p f (x ∷ xs) h = pair-T (p x) (all p xs) (f x h.0) (All-test p f xs h.1)

  -- by index: past the end stands the default
  pub All-at : (P : A → Type 0) (d : A) → P d → (xs : List A) → All P xs → (i : ℕ) → P (get_or xs i d)
  All-at P d e [] h i = e
  All-at P d e (x ∷ xs) h zero = h.0
  All-at P d e (x ∷ xs) h (suc i) = All-at P d e xs h.1 i

  pub at-All : (P : A → Type 0) (d : A) (xs : List A) → ((i : ℕ) → P (get_or xs i d)) → All P xs
  at-All P d [] h = tt
  at-All P d (x ∷ xs) h = (h zero, at-All P d xs (λ i. h (suc i)))

  pub All-join : (P : A → Type 0) (xs ys : List A) → All P xs → All P ys → All P (xs ++ ys)
  All-join P [] ys h g = g
  All-join P (x ∷ xs) ys h g = (h.0, All-join P xs ys h.1 g)

  pub All-parts : (P : A → Type 0) (xs ys : List A) → All P (xs ++ ys) → All P xs × All P ys
  All-parts P [] ys h = (tt, h)
  All-parts P (x ∷ xs) ys h =
      let r = All-parts P xs ys h.1 in
      ((h.0, r.0), r.1)

  pub All-∈ : (P : A → Type 0) (xs : List A) → All P xs → {x : A} → x ∈ xs → P x
  All-∈ P [] h m = absurd (Memᴰ.not-nil m)
  All-∈ P (y ∷ ys) h {x} m = step (λ n. All-∈ P ys h.1 n) (Memᴰ.cases_cons m)
    where
      step : (x ∈ ys → P x) → (x ≡ y) ⊎ (x ∈ ys) → P x
      step f (inl e) = subst P (sym e) h.0
      step f (inr n) = f n

  pub ∈-All : {P : A → Type 0} (xs : List A) → ((x : A) → x ∈ xs → P x) → All P xs
  ∈-All [] f = tt
  ∈-All (x ∷ xs) f = (f x (Memᴰ.head refl), ∈-All xs (λ y m. f y (Memᴰ.tail m)))

-- ---- what holds of every element of a mapped list

module _ {A B : Type 0} (P : B → Type 0) (f : A → B) where
  pub map-All : (xs : List A) → All (λ x. P (f x)) xs → All P (map f xs)
  map-All [] h = tt
  map-All (x ∷ xs) h = (h.0, map-All xs h.1)

  pub All-mapped : (xs : List A) → All P (map f xs) → All (λ x. P (f x)) xs
  All-mapped [] h = tt
  All-mapped (x ∷ xs) h = (h.0, All-mapped xs h.1)

-- ---- by index, below the length

module _ {A : Type 0} (P : A → Type 0) (d : A) where
  pub All-below : (xs : List A) → All P xs → (i : ℕ) → i < length xs → P (get_or xs i d)
  All-below [] h i l = absurd (none l)
    where
      none : i < 0 → ⊥
      none g = omega arith
  All-below (x ∷ xs) h zero l = h.0
  All-below (x ∷ xs) h (suc i) l = All-below xs h.1 i (omega arith)

  pub below-All : (xs : List A) → ((i : ℕ) → i < length xs → P (get_or xs i d)) → All P xs
  below-All [] h = tt
  below-All (x ∷ xs) h = (h zero (omega arith), below-All xs (λ i l. h (suc i) (omega arith)))

-- ---- the list of a function's values

-- f 0, .., f (n - 1)
module _ {A : Type 0} where
  pub length_tab : (n : ℕ) (f : ℕ → A) → length (tab n f) ≡ n
  unfolding tab
  length_tab zero f = refl
  length_tab (suc n) f = ap suc (length_tab n (λ i. f (suc i)))

  pub get_d_tab : (n : ℕ) (f : ℕ → A) (d : A) (i : ℕ) → i < n → get_or (tab n f) i d ≡ f i
  unfolding tab
  get_d_tab zero f d i l = absurd (none l)
    where
      none : i < 0 → ⊥
      none g = omega arith
  get_d_tab (suc n) f d zero l = refl
  get_d_tab (suc n) f d (suc i) l = get_d_tab n (λ j. f (suc j)) d i (omega arith)

  pub All-tab : (P : A → Type 0) (n : ℕ) (f : ℕ → A) → ((i : ℕ) → i < n → P (f i)) → All P (tab n f)
  unfolding tab
  All-tab P zero f h = tt
  All-tab P (suc n) f h = (h 0 (omega arith), All-tab P n (λ i. f (suc i)) (λ i l. h (suc i) (omega arith)))

  pub tab_cong : (n : ℕ) (f g : ℕ → A) → ((i : ℕ) → i < n → f i ≡ g i) → tab n f ≡ tab n g
  unfolding tab
  tab_cong zero f g h = refl
  tab_cong (suc n) f g h = ap₂ ◌∷◌ (h 0 (omega arith)) (tab_cong n (λ i. f (suc i)) (λ i. g (suc i)) (λ i l. h (suc i) (omega arith)))

  -- with another value at i
  pub tab_set : (n : ℕ) (f g : ℕ → A) (i : ℕ) (x : A) → i < n → g i ≡ x → ((j : ℕ) → (j ≡ i → ⊥) → g j ≡ f j) → tab n g ≡ set (tab n f) i x
  unfolding tab
  tab_set zero f g i x l e h = absurd (none l)
    where
      none : i < 0 → ⊥
      none q = omega arith
  tab_set (suc n) f g zero x l e h = ap₂ ◌∷◌ e (tab_cong n (λ j. g (suc j)) (λ j. f (suc j)) (λ j lj. h (suc j) (λ q. omega arith)))
  tab_set (suc n) f g (suc i) x l e h =
      ap₂ ◌∷◌ (h 0 (λ q. omega arith)) (tab_set n (λ j. f (suc j)) (λ j. g (suc j)) i x (omega arith) e (λ j q. h (suc j) (λ s. q (omega arith))))

  -- past the end stands the default
  pub get_d_past : (xs : List A) (d : A) (i : ℕ) → length xs ≤ i → get_or xs i d ≡ d
  get_d_past [] d i l = refl
  get_d_past (x ∷ xs) d zero l = absurd (none l)
    where
      none : suc (length xs) ≤ 0 → ⊥
      none g = omega arith
  get_d_past (x ∷ xs) d (suc i) l = get_d_past xs d i (omega arith)

-- ---- cases over numbers

pub below_or_not : (a b : ℕ) → (a < b) ⊎ (b ≤ a)
below_or_not a zero = inr (omega arith)
below_or_not zero (suc b) = inl (omega arith)
below_or_not (suc a) (suc b) = ⊎_elim (λ (l : a < b). inl (omega arith)) (λ (l : b ≤ a). inr (omega arith)) (below_or_not a b)

-- by the points of n events: 0, the events, and what is past them
pub by_points : (P : ℕ → Type 0) (n : ℕ) → P 0 → ((i : ℕ) → i < n → P (suc i)) → ((q : ℕ) → n < q → P q) → (q : ℕ) → P q
by_points P n start event past zero = start
by_points P n start event past (suc i) = ⊎_elim (λ (l : i < n). event i l) (λ (l : n ≤ i). past (suc i) (omega arith)) (below_or_not i n)

-- ---- the elements that pass a test

module _ {A : Type 0} where
  pub ∈-keep : (p : A → Bool) (xs : List A) {x : A} → x ∈ xs → T (p x) → x ∈ keep p xs
  unfolding keep
  ∈-keep p [] m t = absurd (Memᴰ.not-nil m)
  ∈-keep p (y ∷ ys) {x} m t = step (p y) refl (λ n. ∈-keep p ys n t) (Memᴰ.cases_cons m)
    where
      step : (b : Bool) → p y ≡ b → (x ∈ ys → x ∈ keep p ys) → (x ≡ y) ⊎ (x ∈ ys) → x ∈ cond b (y ∷ keep p ys) (keep p ys)
      step true e f (inl q) = Memᴰ.head q
      step true e f (inr n) = Memᴰ.tail (f n)
      step false e f (inl q) = absurd (subst T e (subst (λ z. T (p z)) q t))
      step false e f (inr n) = f n

  pub keep-∈ : (p : A → Bool) (xs : List A) {x : A} → x ∈ keep p xs → (x ∈ xs) × T (p x)
  unfolding keep
  keep-∈ p [] m = absurd (Memᴰ.not-nil m)
  keep-∈ p (y ∷ ys) {x} m = step (p y) refl (λ n. keep-∈ p ys n) m
    where
      on_head : p y ≡ true → (x ∈ keep p ys → (x ∈ ys) × T (p x)) → (x ≡ y) ⊎ (x ∈ keep p ys) → (x ∈ (y ∷ ys)) × T (p x)
      on_head e f (inl q) = (Memᴰ.head q, subst (λ z. T (p z)) (sym q) (subst T (sym e) tt))
      on_head e f (inr n) = (Memᴰ.tail (f n).0, (f n).1)

      step : (b : Bool) → p y ≡ b → (x ∈ keep p ys → (x ∈ ys) × T (p x)) → x ∈ cond b (y ∷ keep p ys) (keep p ys) → (x ∈ (y ∷ ys)) × T (p x)
      step true e f n = on_head e f (Memᴰ.cases_cons n)
      step false e f n = (Memᴰ.tail (f n).0, (f n).1)

-- ---- a list for each element, joined

module _ {A B : Type 0} where
  pub ∈-each : (f : A → List B) (xs : List A) {x : A} {y : B} → x ∈ xs → y ∈ f x → y ∈ each f xs
  unfolding each
  ∈-each f [] m n = absurd (Memᴰ.not-nil m)
  ∈-each f (z ∷ zs) {x} {y} m n = step (λ k. ∈-each f zs k n) (Memᴰ.cases_cons m)
    where
      step : (x ∈ zs → y ∈ each f zs) → (x ≡ z) ⊎ (x ∈ zs) → y ∈ (f z ++ each f zs)
      step g (inl e) = Memᴰ.append_left (each f zs) (subst (λ w. y ∈ f w) e n)
      step g (inr k) = Memᴰ.append_right (f z) (g k)

  pub each-∈ : (f : A → List B) (xs : List A) {y : B} → y ∈ each f xs → (x : A) × (x ∈ xs) × (y ∈ f x)
  unfolding each
  each-∈ f [] m = absurd (Memᴰ.not-nil m)
  each-∈ f (z ∷ zs) {y} m = step (λ k. each-∈ f zs k) (Memᴰ.append_cases (f z) m)
    where
      step : (y ∈ each f zs → (x : A) × (x ∈ zs) × (y ∈ f x)) → (y ∈ f z) ⊎ (y ∈ each f zs) → (x : A) × (x ∈ (z ∷ zs)) × (y ∈ f x)
      step g (inl n) = (z, Memᴰ.head refl, n)
      step g (inr n) = ((g n).0, Memᴰ.tail (g n).1, (g n).2)

  pub ∈-map : (f : A → B) (xs : List A) {x : A} → x ∈ xs → f x ∈ map f xs
  ∈-map f [] m = absurd (Memᴰ.not-nil m)
  ∈-map f (z ∷ zs) {x} m = step (λ k. ∈-map f zs k) (Memᴰ.cases_cons m)
    where
      step : (x ∈ zs → f x ∈ map f zs) → (x ≡ z) ⊎ (x ∈ zs) → f x ∈ (f z ∷ map f zs)
      step g (inl e) = Memᴰ.head (ap f e)
      step g (inr k) = Memᴰ.tail (g k)

  pub map-∈ : (f : A → B) (xs : List A) {y : B} → y ∈ map f xs → (x : A) × (x ∈ xs) × (y ≡ f x)
  map-∈ f [] m = absurd (Memᴰ.not-nil m)
  map-∈ f (z ∷ zs) {y} m = step (λ k. map-∈ f zs k) (Memᴰ.cases_cons m)
    where
      step : (y ∈ map f zs → (x : A) × (x ∈ zs) × (y ≡ f x)) → (y ≡ f z) ⊎ (y ∈ map f zs) → (x : A) × (x ∈ (z ∷ zs)) × (y ≡ f x)
      step g (inl e) = (z, Memᴰ.head refl, e)
      step g (inr k) = ((g k).0, Memᴰ.tail (g k).1, (g k).2)

-- ---- all lists of n elements

module _ {A : Type 0} where
  pub ∈-tuples : (xs t : List A) → All (λ x. x ∈ xs) t → t ∈ tuples (length t) xs
  unfolding tuples
  ∈-tuples xs [] h = Memᴰ.head refl
  ∈-tuples xs (x ∷ t) h = ∈-each (λ y. map (λ s. y ∷ s) (tuples (length t) xs)) xs h.0 (∈-map (λ s. x ∷ s) (tuples (length t) xs) (∈-tuples xs t h.1))

  pub tuples-∈ : (n : ℕ) (xs : List A) {t : List A} → t ∈ tuples n xs → (length t ≡ n) × All (λ x. x ∈ xs) t
  unfolding tuples
  tuples-∈ zero xs {t} m = step (Memᴰ.cases_cons m)
    where
      step : (t ≡ []) ⊎ (t ∈ []) → (length t ≡ zero) × All (λ x. x ∈ xs) t
      step (inl e) = subst (λ s. (length s ≡ zero) × All (λ x. x ∈ xs) s) (sym e) (refl, tt)
      step (inr k) = absurd (Memᴰ.not-nil k)
  tuples-∈ (suc n) xs {t} m = last (λ s k. tuples-∈ n xs {t = s} k) (each-∈ (λ y. map (λ s. y ∷ s) (tuples n xs)) xs m)
    where
      more : (x : A) → x ∈ xs → (s : List A) → (length s ≡ n) × All (λ y. y ∈ xs) s → t ≡ x ∷ s → (length t ≡ suc n) × All (λ y. y ∈ xs) t
      more x mx s h e = subst (λ u. (length u ≡ suc n) × All (λ y. y ∈ xs) u) (sym e) (ap suc h.0, (mx, h.1))

      last : ((s : List A) → s ∈ tuples n xs → (length s ≡ n) × All (λ y. y ∈ xs) s) → (x : A) × (x ∈ xs) × (t ∈ map (λ s. x ∷ s) (tuples n xs)) → (length t ≡ suc n) × All (λ y. y ∈ xs) t
      last f w =
          let v : (s : List A) × (s ∈ tuples n xs) × (t ≡ w.0 ∷ s) = map-∈ (λ s. w.0 ∷ s) (tuples n xs) w.2 in
          more w.0 w.1 v.0 (f v.0 v.1) v.2

pub ∈-upto : (n : ℕ) {k : ℕ} → k ≤ n → k ∈ upto n
unfolding upto
∈-upto zero {k} h = Memᴰ.head {x = zero} (omega arith)
∈-upto (suc n) {k} h = step (by_test (eqb k (suc n))) (λ g. ∈-upto n g)
  where
    apart : T (not (eqb k (suc n))) → k ≢ suc n
    apart t e = T_not (eqb k (suc n)) t (subst (λ m. T (eqb k m)) e (eqb_refl k))

    step : T (eqb k (suc n)) ⊎ T (not (eqb k (suc n))) → (k ≤ n → k ∈ upto n) → k ∈ (suc n ∷ upto n)
    step (inl t) f = Memᴰ.head (eqb→eq k (suc n) t)
    step (inr t) f = Memᴰ.tail (f (omega (arith, apart t)))

all_upto : (n : ℕ) → All (λ k. k ≤ n) (upto n)
unfolding upto
all_upto zero = (omega arith, tt)
all_upto (suc n) = (omega arith, All-map (λ k (h : k ≤ n). omega arith) (upto n) (all_upto n))

pub upto-∈ : (n : ℕ) {k : ℕ} → k ∈ upto n → k ≤ n
upto-∈ n m = All-∈ (λ k. k ≤ n) (upto n) (all_upto n) m

pub le_largest : (xs : List ℕ) {x : ℕ} → x ∈ xs → x ≤ largest xs
unfolding largest
le_largest xs m = All-∈ (λ x. x ≤ largest xs) xs (go xs) m
  where
    go : (xs : List ℕ) → All (λ x. x ≤ largest xs) xs
    go [] = tt
    go (x ∷ xs) = (omega arith, All-map (λ y (h : y ≤ largest xs). omega arith) xs (go xs))

pub largest-∈ : (x : ℕ) (xs : List ℕ) → largest (x ∷ xs) ∈ (x ∷ xs)
unfolding largest
largest-∈ x [] = Memᴰ.head {x = x} (omega arith)
largest-∈ x (y ∷ ys) = step (by_test (leb x (largest (y ∷ ys)))) (largest-∈ y ys)
  where
    step : T (leb x (largest (y ∷ ys))) ⊎ T (not (leb x (largest (y ∷ ys)))) → largest (y ∷ ys) ∈ (y ∷ ys) → max x (largest (y ∷ ys)) ∈ (x ∷ y ∷ ys)
    step (inl t) m = Memᴰ.tail (Memᴰ.cast (max-eq_right (leb→le x (largest (y ∷ ys)) t)) m)
    step (inr t) m = Memᴰ.head (max-eq_left (le_of_lt (nleb→lt x (largest (y ∷ ys)) t)))
