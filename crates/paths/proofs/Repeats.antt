-- The laws of what specs/Repeats defines.
use Rattle.std.specs.Prelude.{◌≡◌, refl, List, [], ◌∷◌, ◌++◌, map, ◌⊎◌, ◌≢◌, ℕ, zero, suc, ◌≤◌, ◌<◌, length}
use Rattle.std.proofs.Common.{sym, ap, subst, inl, inr, arith}
use Rattle.std.proofs.Math.Decide.{ℕ_discrete}
use Rattle.temporal.specs.Lists.{All}
use Rattle.temporal.proofs.Lists.{All-map₂}
use Rattle.paths.specs.Repeats.{Differ, Repeat}

pub differ_map : (f : ℕ → ℕ) (xs : List ℕ) → Differ (map f xs) → Differ xs
differ_map f [] h = tt
differ_map f (x ∷ xs) h = (heads xs h.0, differ_map f xs h.1)
  where
    heads : (ys : List ℕ) → All (λ y. f x ≢ y) (map f ys) → All (λ y. x ≢ y) ys
    heads [] g = tt
    heads (y ∷ ys) g = (λ e. g.0 (ap f e), heads ys g.1)

-- a list with at most one number fewer, and not v
record Without (v : ℕ) (xs ys : List ℕ) : Type 1 where
  longer : length xs ≤ suc (length ys)
  differ : Differ ys
  free : All (λ y. v ≢ y) ys
  kept : (P : ℕ → Type 0) → All P xs → All P ys

without : (v : ℕ) (xs : List ℕ) → Differ xs → (ys : List ℕ) × Without v xs ys
without v [] d = ([], record { longer = omega arith; differ = tt; free = tt; kept = λ P h. tt })
without v (x ∷ xs) d = step (ℕ_discrete v x) (without v xs d.1)
  where
    step : Dec (v ≡ x) → (ys : List ℕ) × Without v xs ys → (ys : List ℕ) × Without v (x ∷ xs) ys
    step (yes e) r = (
      xs,
      record {
        longer = omega arith;
        differ = d.1;
        free = subst (λ z. All (λ y. z ≢ y) xs) (sym e) d.0;
        kept = λ P h. h.1;
      },
    )
    step (no n) r = (
      x ∷ r.0,
      record {
        longer = omega (arith, r.1.longer);
        differ = (r.1.kept (λ y. x ≢ y) d.0, r.1.differ);
        free = (n, r.1.free);
        kept = λ P h. (h.0, r.1.kept P h.1);
      },
    )

-- at most n different numbers are below n
pub pigeonhole : (n : ℕ) (xs : List ℕ) → Differ xs → All (λ x. x < n) xs → length xs ≤ n
pigeonhole zero [] d h = omega arith
pigeonhole zero (x ∷ xs) d h = absurd (omega arith)
pigeonhole (suc n) xs d h = step (without n xs d) (λ ys e g. pigeonhole n ys e g)
  where
    step : (ys : List ℕ) × Without n xs ys → ((ys : List ℕ) → Differ ys → All (λ x. x < n) ys → length ys ≤ n) → length xs ≤ suc n
    step r f =
        let below : All (λ x. x < n) r.0 = All-map₂ (λ x (l : x < suc n) (a : n ≢ x). omega arith) r.0 (r.1.kept (λ x. x < suc n) h) r.1.free in
        omega (arith, r.1.longer, f r.0 r.1.differ below)

-- f takes the value v at y, a place of the list
abbrev Occurs : (ℕ → ℕ) → ℕ → List ℕ → Type 0
Occurs f v xs = (middle : List ℕ) × (y : ℕ) × (back : List ℕ) × (xs ≡ middle ++ (y ∷ back)) × (v ≡ f y)

occurs : (f : ℕ → ℕ) (v : ℕ) (xs : List ℕ) → All (λ y. v ≢ y) (map f xs) ⊎ Occurs f v xs
occurs f v [] = inl tt
occurs f v (x ∷ xs) = step (ℕ_discrete v (f x)) (occurs f v xs)
  where
    step : Dec (v ≡ f x) → All (λ y. v ≢ y) (map f xs) ⊎ Occurs f v xs → All (λ y. v ≢ y) (map f (x ∷ xs)) ⊎ Occurs f v (x ∷ xs)
    step (yes e) r = inr ([], x, xs, refl, e)
    step (no n) (inl h) = inl (n, h)
    step (no n) (inr r) = inr (x ∷ r.0, r.1, r.2, ap (λ l. x ∷ l) r.3, r.4)

-- f takes different values on the list, or one of them twice
pub repeats : (f : ℕ → ℕ) (xs : List ℕ) → Differ (map f xs) ⊎ Repeat f xs
repeats f [] = inl tt
repeats f (x ∷ xs) = step (repeats f xs) (occurs f (f x) xs)
  where
    step : Differ (map f xs) ⊎ Repeat f xs → All (λ y. f x ≢ y) (map f xs) ⊎ Occurs f (f x) xs → Differ (map f (x ∷ xs)) ⊎ Repeat f (x ∷ xs)
    step (inr r) h = inr (record { front = x ∷ r.front; x = r.x; middle = r.middle; y = r.y; back = r.back; shape = ap (λ l. x ∷ l) r.shape; same = r.same })
    step (inl d) (inl h) = inl (h, d)
    step (inl d) (inr r) = inr (record { front = []; x = x; middle = r.0; y = r.1; back = r.2; shape = ap (λ l. x ∷ l) r.3; same = r.4 })
