-- The laws of what specs/Turns defines.
use Rattle.std.specs.Prelude.{◌≡◌, refl, ◌⊎◌, ◌≢◌, ℕ, ◌≤◌, ◌<◌, T, leb, length}
use Rattle.std.proofs.Common.{sym, ap, ap₂, ◌∙◌, subst, inl, inr, ⊎_elim, arith, leb→le, le→leb, length-append}
use mathlib.Core.List.{List, [], ◌∷◌, ◌++◌, append-nil, append_assoc, head-eq_of_cons-eq, tail-eq_of_cons-eq}
use Rattle.temporal.specs.Lists.{All}
use Rattle.temporal.proofs.Lists.{All-map, All-map₂, All-join, All-parts, test-All, All-test, below_or_not}
use Rattle.paths.specs.Repeats.{Differ}
use Rattle.rings.specs.Turns.{Lowest, LowestCut, Turn, is_lowest}

pub test_lowest : (xs : List ℕ) → T (is_lowest xs) → Lowest xs
test_lowest [] t = tt
test_lowest (x ∷ xs) t = test-All (λ y. leb x y) (λ y h. leb→le x y h) xs t

pub lowest_test : (xs : List ℕ) → Lowest xs → T (is_lowest xs)
lowest_test [] h = tt
lowest_test (x ∷ xs) h = All-test (λ y. leb x y) (λ y g. le→leb x y g) xs h

pub cut : (x : ℕ) (xs : List ℕ) → LowestCut (x ∷ xs)
cut x [] = ([], x, [], refl, (omega arith, tt))
cut x (v ∷ vs) = step (cut v vs)
  where
    step : LowestCut (v ∷ vs) → LowestCut (x ∷ v ∷ vs)
    step r = ⊎_elim
        (λ (l : x < r.1). ([], x, v ∷ vs, refl, (omega arith, All-map (λ z (h : r.1 ≤ z). omega arith) (v ∷ vs) r.4)))
        (λ (l : r.1 ≤ x). (x ∷ r.0, r.1, r.2, ap (λ l. x ∷ l) r.3, (l, r.4))) (below_or_not x r.1)

pub turn_length : (xs ys : List ℕ) → Turn xs ys → length ys ≡ length xs
turn_length xs ys t = omega (arith, length-append t.0 t.1, length-append t.1 t.0, ap length t.2, ap length t.3)

-- every list has a turn that starts at its lowest number
pub lowest_turn : (xs : List ℕ) → (ys : List ℕ) × Turn xs ys × Lowest ys
lowest_turn [] = ([], ([], [], refl, refl), tt)
lowest_turn (x ∷ xs) =
    let r = cut x xs in
    let h = All-parts (λ z. r.1 ≤ z) r.0 (r.1 ∷ r.2) (subst (All (λ z. r.1 ≤ z)) r.3 r.4) in
    ((r.1 ∷ r.2) ++ r.0, (r.0, r.1 ∷ r.2, r.3, refl), All-join (λ z. r.1 ≤ z) r.2 r.0 h.1.1 h.0)

-- no number of the one list is one of the other
abbrev Apart : List ℕ → List ℕ → Type 0
Apart xs ys = All (λ x. All (λ y. x ≢ y) ys) xs

differ_parts : (xs ys : List ℕ) → Differ (xs ++ ys) → Differ ys × Apart xs ys
differ_parts [] ys d = (d, tt)
differ_parts (x ∷ xs) ys d =
    let r = differ_parts xs ys d.1 in
    (r.0, ((All-parts (λ y. x ≢ y) xs ys d.0).1, r.1))

apart_flip : (xs ys : List ℕ) → Apart xs ys → Apart ys xs
apart_flip xs [] a = tt
apart_flip xs (y ∷ ys) a = (All-map {Q = λ x. y ≢ x} (λ x h e. h.0 (sym e)) xs a, apart_flip xs ys (All-map (λ x h. h.1) xs a))

apart_join : (xs ys zs : List ℕ) → Apart xs ys → Apart xs zs → Apart xs (ys ++ zs)
apart_join xs ys zs a b = All-map₂ (λ x h g. All-join (λ z. x ≢ z) ys zs h g) xs a b

swap_same : (xs ys : List ℕ) → Apart xs ys → Lowest (xs ++ ys) → Lowest (ys ++ xs) → xs ++ ys ≡ ys ++ xs
swap_same [] ys a h g = sym (append-nil ys)
swap_same (x ∷ xs) [] a h g = append-nil (x ∷ xs)
swap_same (x ∷ xs) (y ∷ ys) a h g =
    absurd (a.0.0 (omega (arith, (All-parts (λ z. x ≤ z) xs (y ∷ ys) h).1.0, (All-parts (λ z. y ≤ z) ys (x ∷ xs) g).1.0)))

-- of two cuts of a list the one stands m further on
abbrev Further : List ℕ → List ℕ → List ℕ → List ℕ → Type 0
Further a b c d = (m : List ℕ) × (c ≡ a ++ m) × (b ≡ m ++ d)

cuts : (a b c d : List ℕ) → a ++ b ≡ c ++ d → Further a b c d ⊎ Further c d a b
cuts [] b c d e = inl (c, refl, e)
cuts (x ∷ a) b [] d e = inr (x ∷ a, refl, sym e)
cuts (x ∷ a) b (y ∷ c) d e = step (cuts a b c d (tail-eq_of_cons-eq e))
  where
    step : Further a b c d ⊎ Further c d a b → Further (x ∷ a) b (y ∷ c) d ⊎ Further (y ∷ c) d (x ∷ a) b
    step (inl r) = inl (r.0, ap₂ ◌∷◌ (sym (head-eq_of_cons-eq e)) r.1, r.2)
    step (inr r) = inr (r.0, ap₂ ◌∷◌ (head-eq_of_cons-eq e) r.1, r.2)

further : (a m d : List ℕ) → Differ (a ++ (m ++ d)) → Lowest ((m ++ d) ++ a) → Lowest (d ++ (a ++ m)) → (m ++ d) ++ a ≡ d ++ (a ++ m)
further a m d f h g =
    let p = differ_parts a (m ++ d) f in
    let am : Apart a m = All-map (λ x q. (All-parts (λ y. x ≢ y) m d q).0) a p.1 in
    let apart : Apart m (d ++ a) = apart_join m d a (differ_parts m d p.0).1 (apart_flip a m am) in
    append_assoc m d a ∙ swap_same m (d ++ a) apart (subst Lowest (append_assoc m d a) h) (subst Lowest (sym (append_assoc d a m)) g) ∙ append_assoc d a m

one_cut : (a b c d : List ℕ) → Further a b c d → Differ (a ++ b) → Lowest (b ++ a) → Lowest (d ++ c) → b ++ a ≡ d ++ c
one_cut a b c d r f h g =
    ap (λ x. x ++ a) r.2
    ∙ further a r.0 d (subst (λ x. Differ (a ++ x)) r.2 f) (subst (λ x. Lowest (x ++ a)) r.2 h) (subst (λ x. Lowest (d ++ x)) r.1 g)
    ∙ ap (λ x. d ++ x) (sym r.1)

-- a list without repeats has only one
pub lowest_once : (xs ys zs : List ℕ) → Differ xs → Turn xs ys → Lowest ys → Turn xs zs → Lowest zs → ys ≡ zs
lowest_once xs ys zs d t h u g = t.3 ∙ step (cuts t.0 t.1 u.0 u.1 (sym t.2 ∙ u.2)) (subst Lowest t.3 h) (subst Lowest u.3 g) ∙ sym u.3
  where
    step : Further t.0 t.1 u.0 u.1 ⊎ Further u.0 u.1 t.0 t.1 → Lowest (t.1 ++ t.0) → Lowest (u.1 ++ u.0) → t.1 ++ t.0 ≡ u.1 ++ u.0
    step (inl r) p q = one_cut t.0 t.1 u.0 u.1 r (subst Differ t.2 d) p q
    step (inr r) p q = sym (one_cut u.0 u.1 t.0 t.1 r (subst Differ u.2 d) q p)
