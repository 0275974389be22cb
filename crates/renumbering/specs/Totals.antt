-- A sum over the points is the same in any order (`sum_order`). So renumbering leaves the total of windows (`total_same`), and for each device the number of its
-- set flags (`flags_same`) and of its events (`owned-same`). Rests on `network`'s sums.
use Rattle.std.specs.Prelude.{◌≡◌, refl, Bool, false, cond, ◌&&◌, List, [], ◌∷◌, ℕ, suc, ◌*◌, ◌-◌, ◌<◌, eqb, length, get_or}
use Rattle.std.proofs.Common.{sym, ap, ◌∙◌, mul-zero, arith}
use Rattle.std.proofs.Math.Logic.{by_cases}
use Rattle.std.proofs.Math.Decide.{ℕ_discrete}
use Rattle.network.specs.Sum.{sum, sum_cong, sum_first, sum_swap, sum_single, when_eq, when_is, when_eq_other}
use Rattle.temporal.specs.Ticket.{Ticket, events, Window, origin, window_of, weight, total_of, total}
use Rattle.temporal.specs.Plan.{flagged}
use Rattle.temporal.specs.Run.{device_flags}
use Rattle.renumbering.specs.Order.{Order, reorder, length_reorder, old_point, new_point, at_old}
use Rattle.renumbering.specs.Renumber.{renumber, renumber_windows, renumber_flags, events_renumber}

-- ---- a sum over the points, in any order: count each value once by its old point, once by its new

pub sum_order : {n : ℕ} (o : Order n) (f : ℕ → ℕ) → sum (suc n) (λ p. f (o.old p)) ≡ sum (suc n) f
sum_order {n} o f =
    sum_cong _ _ (suc n) (λ p l. sym (sum_single (suc n) (o.old p) f (row p l)))
    ∙ sum_swap (suc n) (suc n) (λ p q. when_eq (o.old p) q (f q))
    ∙ sum_cong _ _ (suc n) column
  where
    row : (p : ℕ) → p < suc n → o.old p < suc n
    row p l = omega (arith, old_point o p (omega arith))

    -- p's old point is q, or q's new point is p
    turned : (p q : ℕ) → when_eq (o.old p) q (f q) ≡ when_eq (o.new q) p (f q)
    turned p q = by_cases (ℕ_discrete (o.old p) q)
        (λ e. when_is (o.old p) q (f q) e ∙ sym (when_is (o.new q) p (f q) (ap o.new (sym e) ∙ o.new_old p)))
        (λ h. when_eq_other (o.old p) q (f q) h ∙ sym (when_eq_other (o.new q) p (f q) (λ e. h (ap o.old (sym e) ∙ o.old_new q))))

    column : (q : ℕ) → q < suc n → sum (suc n) (λ p. when_eq (o.old p) q (f q)) ≡ f q
    column q l = sum_cong _ _ (suc n) (λ p m. turned p q) ∙ sum_single (suc n) (o.new q) (λ p. f q) (omega (arith, new_point o q (omega arith)))

-- so what is summed over the points of a list and of the list in the new order is the same
module _ {n : ℕ} (o : Order n) (f g : ℕ → ℕ) (at : (p : ℕ) → g p ≡ f (o.old p)) where
  pub sum_same : (m m' : ℕ) → m ≡ n → m' ≡ n → sum (suc m') g ≡ sum (suc m) f
  sum_same m m' e e' =
      ap (λ x. sum (suc x) g) e' ∙ sum_cong g (λ p. f (o.old p)) (suc n) (λ p l. at p) ∙ sum_order o f ∙ ap (λ x. sum (suc x) f) (sym e)

-- ---- the total width

-- what a point adds to the total: its owner's weight times close minus open
abbrev width : List ℕ → List Window → ℕ → ℕ
width owners ws p = weight (get_or (0 ∷ owners) p 0) * ((window_of ws p).closes - (window_of ws p).opens)

events_sum : (owners : List ℕ) (ws : List Window) → length ws ≡ length owners → total_of owners ws ≡ sum (length owners) (λ i. width owners ws (suc i))
unfolding sum
events_sum [] ws e = refl
events_sum (owner ∷ owners) [] e = absurd (omega arith)
events_sum (owner ∷ owners) (w ∷ ws) e =
    omega (arith, events_sum owners ws (omega arith), sum_first (length owners) (λ i. width (owner ∷ owners) (w ∷ ws) (suc i)))

-- over the points: point 0 adds nothing
total_sum : (owners : List ℕ) (ws : List Window) → length ws ≡ length owners → total_of owners ws ≡ sum (suc (length owners)) (width owners ws)
total_sum owners ws e = omega (arith, events_sum owners ws e, sum_first (length owners) (width owners ws), mul-zero (weight 0))

-- renumbering "leaves the total"
pub total_same : {n : ℕ} (o : Order n) (k : Ticket) → events k ≡ n → (ws : List Window) → length ws ≡ n → total (renumber o k) (renumber_windows o ws) ≡ total k ws
total_same {n} o k e ws l =
    total_sum (reorder o 0 k.owners) (renumber_windows o ws) (length_reorder o origin ws ∙ sym (events_renumber o k))
    ∙ sum_same o (width k.owners ws) (width (reorder o 0 k.owners) (renumber_windows o ws)) at (events k) (events (renumber o k)) e (events_renumber o k)
    ∙ sym (total_sum k.owners ws (l ∙ sym e))
  where
    at : (p : ℕ) → width (reorder o 0 k.owners) (renumber_windows o ws) p ≡ width k.owners ws (o.old p)
    at p = λ i. weight (at_old o 0 k.owners e p i) * ((at_old o origin ws l p i).closes - (at_old o origin ws l p i).opens)

-- ---- the set flags of a device

-- what a point adds to them: 1 where its flag is set and the device owns it. Point 0 has no flag
abbrev flag : ℕ → List ℕ → List Bool → ℕ → ℕ
flag d owners fs p = cond (flagged fs p && eqb (get_or (0 ∷ owners) p 0) d) 1 0

events_flags : (d : ℕ) (owners : List ℕ) (fs : List Bool) → length fs ≡ length owners
    → device_flags d owners fs ≡ sum (length owners) (λ i. flag d owners fs (suc i))
unfolding sum
events_flags d [] fs e = refl
events_flags d (owner ∷ owners) [] e = absurd (omega arith)
events_flags d (owner ∷ owners) (f ∷ fs) e =
    omega (arith, events_flags d owners fs (omega arith), sum_first (length owners) (λ i. flag d (owner ∷ owners) (f ∷ fs) (suc i)))

flags_sum : (d : ℕ) (owners : List ℕ) (fs : List Bool) → length fs ≡ length owners → device_flags d owners fs ≡ sum (suc (length owners)) (flag d owners fs)
flags_sum d owners fs e = omega (arith, events_flags d owners fs e, sum_first (length owners) (flag d owners fs))

pub flags_same : {n : ℕ} (o : Order n) (k : Ticket) → events k ≡ n → (fs : List Bool) → length fs ≡ n → (d : ℕ)
    → device_flags d (renumber o k).owners (renumber_flags o fs) ≡ device_flags d k.owners fs
flags_same {n} o k e fs l d =
    flags_sum d (reorder o 0 k.owners) (renumber_flags o fs) (length_reorder o false fs ∙ sym (events_renumber o k))
    ∙ sum_same o (flag d k.owners fs) (flag d (reorder o 0 k.owners) (renumber_flags o fs)) at (events k) (events (renumber o k)) e (events_renumber o k)
    ∙ sym (flags_sum d k.owners fs (l ∙ sym e))
  where
    at : (p : ℕ) → flag d (reorder o 0 k.owners) (renumber_flags o fs) p ≡ flag d k.owners fs (o.old p)
    at p = λ i. cond (at_old o false fs l p i && eqb (at_old o 0 k.owners e p i) d) 1 0
