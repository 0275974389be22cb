-- The laws of what specs/Lattice defines.
use Rattle.std.specs.Prelude.{◌≡◌, refl, List, [], ◌∷◌, ℕ, zero, suc, ◌+◌, ◌*◌, ◌-◌, ◌≤◌, min, max, length, get_or}
use Rattle.std.proofs.Common.{sym, ap, ◌∙◌, mul-add, arith}
use Rattle.temporal.specs.Ticket.{Window, origin, window_of, weight, total_of}
use Rattle.temporal.specs.Lattice.{high, join, low, meet, pointwise}

pub length_pointwise : (f : Window → Window → Window) (a b : List Window) → length a ≡ length b → length (pointwise f a b) ≡ length a
length_pointwise f [] b e = refl
length_pointwise f (x ∷ xs) [] e = absurd (zero_one e)
  where
    zero_one : suc (length xs) ≡ 0 → ⊥
    zero_one h = omega arith
length_pointwise f (x ∷ xs) (y ∷ ys) e = ap suc (length_pointwise f xs ys (omega arith))

get_d_pointwise : (f : Window → Window → Window) → f origin origin ≡ origin → (a b : List Window) → length a ≡ length b
    → (i : ℕ) → get_or (pointwise f a b) i origin ≡ f (get_or a i origin) (get_or b i origin)
get_d_pointwise f z [] [] e i = sym z
get_d_pointwise f z [] (y ∷ ys) e i = absurd (omega arith)
get_d_pointwise f z (x ∷ xs) [] e i = absurd (omega arith)
get_d_pointwise f z (x ∷ xs) (y ∷ ys) e zero = refl
get_d_pointwise f z (x ∷ xs) (y ∷ ys) e (suc i) = get_d_pointwise f z xs ys (omega arith) i

pub at_pointwise : (f : Window → Window → Window) → f origin origin ≡ origin → (a b : List Window) → length a ≡ length b → (p : ℕ) → window_of (pointwise f a b) p ≡ f (window_of a p) (window_of b p)
at_pointwise f z a b e zero = sym z
at_pointwise f z a b e (suc i) = get_d_pointwise f z a b e i

pub at_meet : (a b : List Window) → length a ≡ length b → (p : ℕ) → window_of (meet a b) p ≡ low (window_of a p) (window_of b p)
at_meet a b e p = at_pointwise low refl a b e p

pub at_join : (a b : List Window) → length a ≡ length b → (p : ℕ) → window_of (join a b) p ≡ high (window_of a p) (window_of b p)
at_join a b e p = at_pointwise high refl a b e p

sum : (x y : ℕ) → min x y + max x y ≡ x + y
sum x y = omega arith

order_min : (o c p d : ℕ) → o ≤ c → p ≤ d → min o p ≤ min c d
order_min o c p d h g = omega arith

order_max : (o c p d : ℕ) → o ≤ c → p ≤ d → max o p ≤ max c d
order_max o c p d h g = omega arith

split : (o c p d lo lc ho hc : ℕ) → o ≤ c → p ≤ d → lo ≤ lc → ho ≤ hc → lo + ho ≡ o + p → lc + hc ≡ c + d → (lc - lo) + (hc - ho) ≡ (c - o) + (d - p)
split o c p d lo lc ho hc h g i j k l = omega arith

together : (x y z w x' y' z' w' : ℕ) → x + y ≡ z + w → x' + y' ≡ z' + w' → (x + x') + (y + y') ≡ (z + z') + (w + w')
together x y z w x' y' z' w' p q = omega arith

-- what the one gains in width the other loses
widths : (a b : Window) → a.opens ≤ a.closes → b.opens ≤ b.closes
    → ((low a b).closes - (low a b).opens) + ((high a b).closes - (high a b).opens) ≡ (a.closes - a.opens) + (b.closes - b.opens)
widths a b h g =
    split a.opens a.closes b.opens b.closes (low a b).opens (low a b).closes (high a b).opens (high a b).closes h g
    (order_min a.opens a.closes b.opens b.closes h g) (order_max a.opens a.closes b.opens b.closes h g)
    (sum a.opens b.opens) (sum a.closes b.closes)

-- a common factor
factor : (n x y z w : ℕ) → x + y ≡ z + w → n * x + n * y ≡ n * z + n * w
factor n x y z w e = sym (mul-add n x y) ∙ ap (λ s. n * s) e ∙ mul-add n z w

pub total_meet_join : (owners : List ℕ) (a b : List Window) → length a ≡ length b
    → ((i : ℕ) → (get_or a i origin).opens ≤ (get_or a i origin).closes) → ((i : ℕ) → (get_or b i origin).opens ≤ (get_or b i origin).closes)
    → total_of owners (meet a b) + total_of owners (join a b) ≡ total_of owners a + total_of owners b
total_meet_join [] a b e h g = refl
total_meet_join (owner ∷ owners) [] [] e h g = refl
total_meet_join (owner ∷ owners) [] (y ∷ ys) e h g = absurd (omega arith)
total_meet_join (owner ∷ owners) (x ∷ xs) [] e h g = absurd (omega arith)
total_meet_join (owner ∷ owners) (x ∷ xs) (y ∷ ys) e h g =
    together _ _ _ _ _ _ _ _ (factor (weight owner) _ _ _ _ (widths x y (h zero) (g zero))) (total_meet_join owners xs ys (omega arith) (λ i. h (suc i)) (λ i. g (suc i)))
