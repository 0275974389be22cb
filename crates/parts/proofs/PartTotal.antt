-- The laws of what specs/PartTotal defines.
use Rattle.std.specs.Prelude.{◌≡◌, refl, Bool, true, false, List, [], ◌∷◌, map, T, eqb, length}
use Rattle.std.proofs.Common.{sym, ap₂, ◌∙◌, arith, eqb→eq}
use Rattle.std.proofs.Math.Path.{ap}
use Rattle.std.proofs.Math.Bool.{cond}
use Prim.Native.Nat.{ℕ, suc, ◌+◌, ◌≤◌, ◌<◌}
use Rattle.std.proofs.Math.ListN.{get_or}
use Rattle.temporal.specs.Lists.{All, tab}
use Rattle.temporal.proofs.Lists.{All-map}
use Rattle.temporal.specs.Ticket.{Ticket, events, Window, origin, window_of, total_of, total}
use Rattle.parts.specs.Part.{owned_from, part_ticket, restrict, sum}
use Rattle.parts.proofs.Sums.{sum_cong, sum_zero, sum_plus, sum_only}
use Rattle.parts.specs.PartTotal.{counts}

-- ---- events numbered from p: `g` gives each its window

total_from : ℕ → ℕ → List ℕ → (ℕ → Window) → ℕ
total_from d p os g = total_of (map (λ q. d) (owned_from d p os)) (map g (owned_from d p os))

total_by : (d p o : ℕ) (xs : List ℕ) (g : ℕ → Window) (b : Bool) → (T b → o ≡ d)
    → total_of (map (λ q. d) (cond b (p ∷ xs) xs)) (map g (cond b (p ∷ xs) xs)) ≡ cond b (counts o (g p)) 0 + total_of (map (λ q. d) xs) (map g xs)
total_by d p o xs g true t = ap (λ e. counts e (g p) + total_of (map (λ q. d) xs) (map g xs)) (sym (t tt))
total_by d p o xs g false t = omega arith

-- the first event counts for its owner alone
total_first : (d p o : ℕ) (os : List ℕ) (g : ℕ → Window) → total_from d p (o ∷ os) g ≡ cond (eqb o d) (counts o (g p)) 0 + total_from d (suc p) os g
unfolding total_from owned_from
total_first d p o os g = total_by d p o (owned_from d (suc p) os) g (eqb o d) (λ t. eqb→eq o d t)

total_from_lem : (d p : ℕ) (os : List ℕ) (g : ℕ → Window)
    → total_from d p os g ≡ sum (tab (length os) (λ i. cond (eqb (get_or os i 0) d) (counts (get_or os i 0) (g (p + i))) 0))
unfolding total_from owned_from sum tab
total_from_lem d p [] g = refl
total_from_lem d p (o ∷ os) g =
    total_first d p o os g
    ∙ ap₂ ◌+◌
    (ap (λ q. cond (eqb o d) (counts o (g q)) 0) (omega arith))
    (total_from_lem d (suc p) os g ∙ sum_cong (length os) (λ i. at i (suc p + i)) (λ i. at i (p + suc i)) (λ i l. ap (at i) (next i)))
  where
    at : ℕ → ℕ → ℕ
    at i q = cond (eqb (get_or os i 0) d) (counts (get_or os i 0) (g q)) 0

    next : (i : ℕ) → suc p + i ≡ p + suc i
    next i = omega arith

sum_from : (n p : ℕ) (os : List ℕ) (vs : List Window) (g : ℕ → Window) → length vs ≡ length os → All (λ o. o < n) os
    → ((i q : ℕ) → q ≡ p + i → g q ≡ get_or vs i origin) → sum (tab n (λ d. total_from d p os g)) ≡ total_of os vs
unfolding total_from owned_from
sum_from n p [] vs g e a h = sum_zero n (λ d. 0) (λ i. refl)
sum_from n p (o ∷ os) [] g e a h = absurd (omega arith)
sum_from n p (o ∷ os) (v ∷ vs) g e a h =
    sum_cong n (λ d. total_from d p (o ∷ os) g) (λ d. cond (eqb o d) (counts o (g p)) 0 + total_from d (suc p) os g) (λ d l. total_first d p o os g)
    ∙ sum_plus n (λ d. cond (eqb o d) (counts o (g p)) 0) (λ d. total_from d (suc p) os g)
    ∙ ap₂ ◌+◌
    (sum_only n o (counts o (g p)) a.0 ∙ ap (counts o) (h 0 p (omega arith)))
    (sum_from n (suc p) os vs g (omega arith) a.1 (λ i q j. h (suc i) q (omega arith)))

-- ---- the windows of a ticket

module _ (k : Ticket) (ws : List Window) where
  pub total_restrict : (d : ℕ) → total (part_ticket d k) (restrict d k ws)
      ≡ sum (tab (events k) (λ i. cond (eqb (get_or k.owners i 0) d) (counts (get_or k.owners i 0) (window_of ws (suc i))) 0))
  unfolding total_from
  total_restrict d = total_from_lem d 1 k.owners (window_of ws) ∙ sum_cong (events k) (λ i. at i (1 + i)) (λ i. at i (suc i)) (λ i l. ap (at i) (next i))
    where
      at : ℕ → ℕ → ℕ
      at i q = cond (eqb (get_or k.owners i 0) d) (counts (get_or k.owners i 0) (window_of ws q)) 0

      next : (i : ℕ) → 1 + i ≡ suc i
      next i = omega arith

  pub sum_restrict : All (λ o. o ≤ 4) k.owners → length ws ≡ events k → sum (tab 5 (λ d. total (part_ticket d k) (restrict d k ws))) ≡ total k ws
  unfolding total_from
  sum_restrict a e = sum_from 5 1 k.owners ws (window_of ws) e (All-map (λ o (l : o ≤ 4). omega arith) k.owners a) (λ i q j. at i q (omega arith))
    where
      at : (i q : ℕ) → q ≡ suc i → window_of ws q ≡ get_or ws i origin
      at i q j = ap (window_of ws) j
