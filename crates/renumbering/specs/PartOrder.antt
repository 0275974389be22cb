-- The events of a device in a renumbered ticket: they are its events under their new numbers (`of_in`, `of_back`), as many as they were (`members_same`), so the
-- order of the ticket's events is one of the device's events among themselves (`part_order`). Rests on `parts`' Members.
use Rattle.std.specs.Prelude.{◌≡◌, refl, Bool, true, false, cond, List, [], ◌∷◌, ℕ, zero, suc, ◌+◌, ◌≤◌, eqb, length, get_or}
use Rattle.std.proofs.Common.{ap, subst, ◌∙◌, arith, le-leb}
use Rattle.network.specs.Sum.{sum, sum_first}
use Rattle.temporal.specs.Ticket.{Ticket, events}
use Rattle.parts.specs.Part.{owned_from, members, point}
use Rattle.parts.proofs.Members.{Of, point_of, place_point, point_place}
use Rattle.parts.specs.Members.{place}
use Rattle.renumbering.specs.Order.{Order, inverse, order_on, new_point, at_new, at_old}
use Rattle.renumbering.specs.Renumber.{renumber, events_renumber, renumber_undo}
use Rattle.renumbering.specs.Totals.{sum_same}

-- ---- the device's points

owner_of_lem : (d : ℕ) (k : Ticket) (p : ℕ) → Of d k p → (p ≤ events k) × (1 ≤ p → get_or (0 ∷ k.owners) p 0 ≡ d)
owner_of_lem d k zero h = (omega arith, λ (l : 1 ≤ 0). absurd (omega arith))
owner_of_lem d k (suc i) h = (h.0, λ l. h.1)

of_owner : (d : ℕ) (k : Ticket) (p : ℕ) → p ≤ events k → (1 ≤ p → get_or (0 ∷ k.owners) p 0 ≡ d) → Of d k p
of_owner d k zero l h = tt
of_owner d k (suc i) l h = (l, h (omega arith))

pub of_in : (d : ℕ) {n : ℕ} (o : Order n) (k : Ticket) → events k ≡ n → (p : ℕ) → Of d k p → Of d (renumber o k) (o.new p)
of_in d o k e p h =
    let r = owner_of_lem d k p h in
    of_owner d (renumber o k) (o.new p) (omega (arith, new_point o p (omega (arith, r.0)), events_renumber o k))
    (λ l. at_new o 0 k.owners e p ∙ r.1 (event p l))
  where
    event : (q : ℕ) → 1 ≤ o.new q → 1 ≤ q
    event zero l = omega (arith, (inverse o).start)
    event (suc i) l = omega arith

of_back : (d : ℕ) {n : ℕ} (o : Order n) (k : Ticket) → events k ≡ n → (q : ℕ) → Of d (renumber o k) q → Of d k (o.old q)
of_back d o k e q h = subst (λ j. Of d j (o.old q)) (renumber_undo o k e) (of_in d (inverse o) (renumber o k) (events_renumber o k) q h)

-- ---- how many events it has

-- what a point adds: 1 where its owner is the device. Point 0 counts like an event of device 0
abbrev one : ℕ → List ℕ → ℕ → ℕ
one d owners p = cond (eqb (get_or (0 ∷ owners) p 0) d) 1 0

length_by : (p : ℕ) (xs : List ℕ) (b : Bool) → length (cond b (p ∷ xs) xs) ≡ cond b 1 0 + length xs
length_by p xs true = omega arith
length_by p xs false = omega arith

owned_sum : (d p : ℕ) (owners : List ℕ) → length (owned_from d p owners) ≡ sum (length owners) (λ i. one d owners (suc i))
unfolding owned_from sum
owned_sum d p [] = refl
owned_sum d p (owner ∷ owners) = omega (
  arith,
  length_by p (owned_from d (suc p) owners) (eqb owner d),
  owned_sum d (suc p) owners,
  sum_first (length owners) (λ i. one d (owner ∷ owners) (suc i)),
)

pub members_same : (d : ℕ) {n : ℕ} (o : Order n) (k : Ticket) → events k ≡ n → length (members d (renumber o k)) ≡ length (members d k)
members_same d {n} o k e = omega (
  arith,
  owned_sum d 1 k.owners,
  owned_sum d 1 (renumber o k).owners,
  sum_first (events k) (one d k.owners),
  sum_first (events (renumber o k)) (one d (renumber o k).owners),
  sum_same o (one d k.owners) (one d (renumber o k).owners) (λ p i. cond (eqb (at_old o 0 k.owners e p i) d) 1 0)
      (events k) (events (renumber o k)) e (events_renumber o k),
)

-- ---- the order of its events among themselves

module _ (d : ℕ) {n : ℕ} (o : Order n) (k : Ticket) (e : events k ≡ n) where
  abbrev k' : Ticket
  k' = renumber o k

  abbrev m : ℕ
  m = length (members d k)

  m' : length (members d k') ≡ m
  m' = members_same d o k e

  -- where the point at place q stands in the other part
  abbrev pub there : ℕ → ℕ
  there q = place d k' (o.new (point d k q))

  abbrev pub back : ℕ → ℕ
  back q = place d k (o.old (point d k' q))

  pub at_there : (q : ℕ) → q ≤ m → (there q ≤ m) × (point d k' (there q) ≡ o.new (point d k q))
  at_there q l =
      let r = point_place d k' (o.new (point d k q)) (of_in d o k e (point d k q) (point_of d k q l)) in
      (omega (arith, r.0, m'), r.1)

  pub at_back : (q : ℕ) → q ≤ m → (back q ≤ m) × (point d k (back q) ≡ o.old (point d k' q))
  at_back q l = point_place d k (o.old (point d k' q)) (of_back d o k e (point d k' q) (point_of d k' q (omega (arith, m'))))

  pub back_there : (q : ℕ) → q ≤ m → back (there q) ≡ q
  back_there q l = ap (λ p. place d k (o.old p)) (at_there q l).1 ∙ ap (place d k) (o.old_new (point d k q)) ∙ place_point d k q l

  pub there_back : (q : ℕ) → q ≤ m → there (back q) ≡ q
  there_back q l =
      ap (λ p. place d k' (o.new p)) (at_back q l).1 ∙ ap (place d k') (o.new_old (point d k' q)) ∙ place_point d k' q (omega (arith, m'))

  abbrev pub part_order : Order m
  part_order = order_on m back there (λ q l. (at_back q l).0) (λ q l. (at_there q l).0) back_there there_back (ap (place d k) o.start)

  pub part_old : (q : ℕ) → q ≤ m → part_order.old q ≡ back q
  part_old q l = rw (le-leb q m l)

  pub part_new : (q : ℕ) → q ≤ m → part_order.new q ≡ there q
  part_new q l = rw (le-leb q m l)
