-- The part of a device of a renumbered ticket (02, changes 8 and 12) has the same total (`part_total_lem`), and its events, under their new numbers, have the windows
-- that they had (`part_windows_lem`). Why: under the order of the device's events among themselves the one part's fit sets are the other's. Rests on Plans and `parts`.
use Rattle.std.specs.Prelude.{◌≡◌, refl, List, [], ◌∷◌, map, ◌≢◌, ℕ, ◌+◌, ◌≤◌, T, length, replicate}
use Rattle.std.proofs.Common.{sym, ap, ap₂, subst, ◌∙◌, arith}
use Rattle.std.proofs.lemmas.List.{length-replicate}
use Rattle.temporal.specs.Bound.{above, below}
use Rattle.temporal.specs.Ticket.{Rule, Ticket, events, Window, window_of, origin, Fit, total_of}
use Rattle.temporal.specs.Ends.{Ends}
use Rattle.temporal.proofs.Ends.{ends_fit, fit_ends}
use Rattle.temporal.specs.Distance.{consistent, distance}
use Rattle.temporal.specs.Best.{Chosen}
use Rattle.temporal.proofs.Best.{chosen_unique}
use Rattle.parts.specs.Part.{members, point, distance_of, part_ticket, part_plan, part_total}
use Rattle.parts.proofs.Members.{Of, point_place}
use Rattle.parts.specs.Members.{place}
use Rattle.parts.proofs.PartDistance.{part_events, distances_all, distances_at, part_distinct}
use Rattle.parts.proofs.Parts.{part_chosen}
use Rattle.renumbering.specs.Order.{Order, inverse, new_point, old_point, at_new, at_old, reorder, length_reorder, reorder_start, reorder_replicate}
use Rattle.renumbering.specs.Renumber.{renumber, renumber_windows}
use Rattle.renumbering.specs.Schedules.{consistent_in, distance_old}
use Rattle.renumbering.specs.Totals.{total_same}
use Rattle.renumbering.specs.Plans.{chosen_in}
use Rattle.renumbering.specs.PartOrder.{members_same, at_back, part_order, part_old, part_new}

-- ---- fit sets

-- of two parts whose points have the same distances under an order of theirs
ends_part : (d : ℕ) (k l : Ticket) {m : ℕ} (po : Order m) → length (members d k) ≡ m → length (members d l) ≡ m → l.horizon ≡ k.horizon
    → ((a b : ℕ) → a ≤ m → b ≤ m → distance_of d l a b ≡ distance_of d k (po.old a) (po.old b))
    → (ws : List Window) → Ends (part_ticket d k) ws → Ends (part_ticket d l) (renumber_windows po ws)
ends_part d k l {m} po ek el h same ws f = record {
  count = length_reorder po origin ws ∙ sym (part_events d l ∙ el);
  ordered = λ p. subst (λ (w : Window). w.opens ≤ w.closes) (sym (at p)) (f.ordered (po.old p));
  inside = λ p. subst (λ (w : Window). w.closes ≤ l.horizon) (sym (at p)) (omega (arith, f.inside (po.old p), h));
  obeys = distances_all d l (λ (r : Rule). (window_of us r.to).closes + below r.bound ≤ (window_of us r.from).opens + above r.bound) rule;
}
  where
    us : List Window
    us = renumber_windows po ws

    count : length ws ≡ m
    count = f.count ∙ part_events d k ∙ ek

    at : (p : ℕ) → window_of (renumber_windows po ws) p ≡ window_of ws (po.old p)
    at p = at_old po origin ws count p

    rule : (a b : ℕ) → a ≤ length (members d l) → b ≤ length (members d l) → a ≢ b
        → (window_of us b).closes + below (distance_of d l a b) ≤ (window_of us a).opens + above (distance_of d l a b)
    rule a b la lb n = rw (at a, at b, same a b (omega (arith, el)) (omega (arith, el)))
        (distances_at d k (λ (r : Rule). (window_of ws r.to).closes + below r.bound ≤ (window_of ws r.from).opens + above r.bound) f.obeys
        (po.old a) (po.old b) (omega (arith, ek, old_point po a (omega (arith, el)))) (omega (arith, ek, old_point po b (omega (arith, el))))
        (λ q. n (sym (po.new_old a) ∙ ap po.new q ∙ po.new_old b)))

-- ---- the plan of the part

-- a choice depends on the ticket by its owners alone
chosen_owners : (k l : Ticket) → k.owners ≡ l.owners → (P : List Window → Type 0) (ws : List Window) → Chosen k P ws → Chosen l P ws
chosen_owners k l e P ws c = record {
  allowed = c.allowed;
  widest = λ vs q. subst (λ os. total_of os vs ≤ total_of os ws) e (c.widest vs q);
  earliest = λ vs q t. c.earliest vs q (subst (λ os. total_of os vs ≡ total_of os ws) (sym e) t);
}

map_const : (d : ℕ) (xs : List ℕ) → map (λ p. d) xs ≡ replicate (length xs) d
map_const d [] = refl
map_const d (x ∷ xs) = ap (λ ys. d ∷ ys) (map_const d xs)

module _ (d : ℕ) {n : ℕ} (o : Order n) (k : Ticket) (e : events k ≡ n) where
  abbrev po : Order (length (members d k))
  po = part_order d o k e

  abbrev other : Ticket
  other = renumber o k

  part_owners : (renumber po (part_ticket d k)).owners ≡ (part_ticket d other).owners
  part_owners =
      ap (reorder po 0) (map_const d (members d k))
      ∙ reorder_start po 0 d (replicate (length (members d k)) d) (length-replicate (length (members d k)) d)
      ∙ reorder_replicate po d (length (members d k))
      ∙ ap (λ n'. replicate n' d) (sym (members_same d o k e))
      ∙ sym (map_const d (members d other))

  module _ (t : T (consistent k)) where
    distances_same : (a b : ℕ) → a ≤ length (members d k) → b ≤ length (members d k) → distance_of d other a b ≡ distance_of d k (po.old a) (po.old b)
    distances_same a b la lb =
        distance_old o k e (point d other a) (point d other b) t
        ∙ ap₂ (distance k) (at a la) (at b lb)
      where
        at : (q : ℕ) → q ≤ length (members d k) → o.old (point d other q) ≡ point d k (po.old q)
        at q l = sym (at_back d o k e q l).1 ∙ ap (point d k) (sym (part_old d o k e q l))

    distances_undo : (a b : ℕ) → a ≤ length (members d k) → b ≤ length (members d k) → distance_of d k a b ≡ distance_of d other (po.new a) (po.new b)
    distances_undo a b la lb = sym (distances_same (po.new a) (po.new b) (new_point po a la) (new_point po b lb)
        ∙ ap₂ (distance_of d k) (po.old_new a) (po.old_new b))

    fit_there : (vs : List Window) → Fit (part_ticket d k) vs → Fit (part_ticket d other) (renumber_windows po vs)
    fit_there vs f = ends_fit (part_ticket d other) (renumber_windows po vs)
        (ends_part d k other po refl (members_same d o k e) refl distances_same vs (fit_ends (part_ticket d k) (part_distinct d k) vs f))

    fit_back : (vs : List Window) → Fit (part_ticket d other) vs → Fit (part_ticket d k) (renumber_windows (inverse po) vs)
    fit_back vs f = ends_fit (part_ticket d k) (renumber_windows (inverse po) vs)
        (ends_part d other k (inverse po) (members_same d o k e) refl refl distances_undo vs (fit_ends (part_ticket d other) (part_distinct d other) vs f))

    length_plan : length (part_plan d k) ≡ length (members d k)
    length_plan = (part_chosen k t d).allowed.count ∙ part_events d k

    part_plan_lem : part_plan d other ≡ renumber_windows po (part_plan d k)
    part_plan_lem = chosen_unique (part_ticket d other) (Fit (part_ticket d other)) (part_plan d other) (renumber_windows po (part_plan d k))
        (part_chosen other (rw (consistent_in o k e) t) d)
        (chosen_owners (renumber po (part_ticket d k)) (part_ticket d other) part_owners (Fit (part_ticket d other)) (renumber_windows po (part_plan d k))
        (chosen_in po (part_ticket d k) (part_events d k) (Fit (part_ticket d k)) (Fit (part_ticket d other)) (λ vs f. f.count ∙ part_events d k)
        (λ vs f. f.count ∙ part_events d other ∙ members_same d o k e) fit_there fit_back (part_plan d k) (part_chosen k t d)))
        ((part_chosen other (rw (consistent_in o k e) t) d).allowed.count ∙ part_events d other ∙ members_same d o k e
        ∙ sym (length_reorder po origin (part_plan d k)))

    -- renumbering leaves the part's total
    pub part_total_lem : part_total d (renumber o k) ≡ part_total d k
    part_total_lem =
        ap₂ total_of (sym part_owners) part_plan_lem ∙ total_same po (part_ticket d k) (part_events d k) (part_plan d k) length_plan

    -- and each of the device's events has the window that it had
    pub part_windows_lem : (p : ℕ) → Of d k p → window_of (part_plan d (renumber o k)) (place d (renumber o k) (o.new p)) ≡ window_of (part_plan d k) (place d k p)
    part_windows_lem p h =
        let r = point_place d k p h in
        ap₂ window_of part_plan_lem (ap (λ q. place d other (o.new q)) (sym r.1) ∙ sym (part_new d o k e (place d k p) r.0))
        ∙ at_new po origin (part_plan d k) length_plan (place d k p)
