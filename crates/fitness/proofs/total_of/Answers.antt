-- `total_of` meets its contract: `map` gives the part of each event, and these are summed.
use Rattle.std.proofs.Common.{arith, rules, ℕ, ◌+◌, ◌<◌, ◌≤◌, ◌*◌, zero, suc, ◌≡◌, refl, sym, ap, ap₂, ◌∙◌, map}
use Rattle.std.specs.List.{range_with_len}
use Rattle.std.specs.List as lists
use Rattle.std.proofs.lemmas.List.Sums.{sum_by-cons}
use Rattle.std.proofs.lemmas.Iterator.{YieldsList-from_range, YieldsList-from_map}
use Rattle.std.proofs.lemmas.Iterator.Consumers.{sum_from_yields_List, fits_from_yields_list}
use Rattle.temporal.proofs.Ticket.{weight_small}
use Rattle.network.specs.Sum.{sum, sum_first}
use Rattle.fitness.specs.Total.{part, part_most, total_parts}
use Rattle.fitness.proofs.total_of.Goals as goal

-- a sum over a range is a sum over its places
range_sum : (f g : ℕ → ℕ) (a n : ℕ) → ((i : ℕ) → i < n → f (a + i) ≡ g i) → lists.sum (map f (range_with_len a n)) ≡ sum n g
unfolding sum
range_sum f g a zero h = refl
range_sum f g a (suc n) h =
    sum_by-cons (λ (x : ℕ). x) (f a) (map f (range_with_len (a + 1) n))
    ∙ ap₂ ◌+◌ (ap f (omega arith) ∙ h 0 (omega arith)) (range_sum f (λ i. g (suc i)) (a + 1) n (λ i l. ap f (omega arith) ∙ h (suc i) (omega arith)))
    ∙ sym (sum_first n g)

sum_most : (n : ℕ) (f : ℕ → ℕ) → ((i : ℕ) → i < n → f i ≤ 3000000) → sum n f ≤ 3000000 * n
unfolding sum
sum_most zero f h = omega arith
sum_most (suc n) f h = omega (arith, sum_most n f (λ i l. h i (omega arith)), h n (omega arith))

pub sum-requires-clause-fits : goal.sum-requires-clause-fits
sum-requires-clause-fits c =
    let f = part c.args.owners.now c.args.opens.now c.args.closes.now in
    let most : sum c.args.n f ≤ 3000000 * c.args.n = sum_most c.args.n f (λ i l. part_most _ _ (weight_small _) (omega (arith, c.requires.1 i l))) in
    fits_from_yields_list _ _ (YieldsList-from_map _ f (YieldsList-from_range 0 c.args.n c.args.n (cc) (omega arith)) c.map.ensures.closure (λ x r q k. search rules))
    (omega (arith, most, range_sum f f 0 c.args.n (λ i l. ap f (omega arith)), c.requires.0))

pub returns : goal.returns
returns c =
    let f = part c.args.owners.now c.args.opens.now c.args.closes.now in
    sum_from_yields_List _ _ c.sum.ensures.ran (YieldsList-from_map _ f (YieldsList-from_range 0 c.args.n c.args.n (cc) (omega arith)) c.map.ensures.closure (λ x r q k. search rules))
    ∙ range_sum f f 0 c.args.n (λ i l. ap f (omega arith)) ∙ sym (total_parts c.args.n c.args.owners.now c.args.opens.now c.args.closes.now)
