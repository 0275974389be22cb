-- The weighted width of a potential, what widest and least mean, and laws of sums over events and nodes. Assumes nothing.
use Rattle.std.specs.Prelude.{ℕ, suc, ◌+◌, ◌*◌, ◌-◌, ◌≤◌, ◌<◌, ◌≡◌}
use Rattle.std.proofs.Common.{sym, ap, ◌∙◌, add-suc, mul-add, mul-le-mul_left, arith}
use Rattle.network.specs.Sum.{sum, sum_cong, sum_mono, sum_add, sum_append, sum_first}
use Rattle.network.specs.Network.{Net, nodes, lo, hi, Feasible, Ordered, refined}

-- The sum of g i over the events i = 1, .., events.
unfoldable pub over : Net → (ℕ → ℕ) → ℕ
over net g = sum net.events (λ j. g (suc j))

-- The weighted sum of the events' widths, of their greatest times, and of their least times.
abbrev pub total : Net → (ℕ → ℕ) → (ℕ → ℕ) → ℕ
total net w p = over net (λ i. w i * (p (hi net i) - p (lo net i)))

abbrev pub highs : Net → (ℕ → ℕ) → (ℕ → ℕ) → ℕ
highs net w p = over net (λ i. w i * p (hi net i))

abbrev pub lows : Net → (ℕ → ℕ) → (ℕ → ℕ) → ℕ
lows net w p = over net (λ i. w i * p (lo net i))

-- An ordered potential than which none is wider.
pub record Widest (net : Net) (w p : ℕ → ℕ) : Type 0 where
  pub feasible : Feasible net p
  pub ordered : Ordered net p
  pub widest : (r : ℕ → ℕ) → Feasible net r → Ordered net r → total net w r ≤ total net w p

-- Of the widest potentials, the one that is least at every node at once.
pub record LeastWidest (net : Net) (w p : ℕ → ℕ) : Type 0 where
  pub widest : Widest net w p
  pub least : (r : ℕ → ℕ) → Widest net w r → (v : ℕ) → v < nodes net → p v ≤ r v

-- ---- laws of the sums

module _ (net : Net) (f g : ℕ → ℕ) where
  pub over_cong : ((i : ℕ) → 0 < i → i ≤ net.events → f i ≡ g i) → over net f ≡ over net g
  unfolding over
  over_cong h = sum_cong _ _ net.events (λ j l. h (suc j) (omega arith) l)

  pub over_mono : ((i : ℕ) → 0 < i → i ≤ net.events → f i ≤ g i) → over net f ≤ over net g
  unfolding over
  over_mono h = sum_mono _ _ net.events (λ j l. h (suc j) (omega arith) l)

  pub over_add : over net (λ i. f i + g i) ≡ over net f + over net g
  unfolding over
  over_add = sum_add _ _ net.events

-- The width is no less than the difference of the sums of times, and is that difference for an ordered potential.
module _ (net : Net) (w p : ℕ → ℕ) where
  pub highs_le : highs net w p ≤ total net w p + lows net w p
  highs_le =
      rw (← over_add)
      (over_mono _ _ _ (λ i a b. rw (← mul-add) (mul-le-mul_left (w i) (omega arith))))

  pub highs_eq : Ordered net p → highs net w p ≡ total net w p + lows net w p
  highs_eq h =
      over_cong _ _ _ (λ i a b. ap (λ x. w i * x) (omega (arith, h i a b)) ∙ mul-add (w i) _ (p (lo net i)))
      ∙ over_add _ _ _

-- A sum over the nodes: the origin, the lo nodes, the hi nodes.
pub sum_nodes : (net : Net) (f : ℕ → ℕ)
    → sum (nodes net) f ≡ f 0 + (over net (λ i. f (lo net i)) + over net (λ i. f (hi net i)))
unfolding over
sum_nodes net f =
    let n = net.events in
    let size : nodes net ≡ suc (n + n) = omega arith in
    ap (λ k. sum k f) size
    ∙ sum_first (n + n) f
    ∙ ap (λ x. f 0 + x)
    (sum_append n n (λ i. f (suc i))
    ∙ ap (λ x. sum n (λ i. f (suc i)) + x) (sum_cong _ _ n (λ j l. ap f (sym (add-suc n j)))))

-- Each event i has an edge, `span i`, from its hi node to its lo node, of a true cost of at most 0: then every potential is ordered.
pub record Spanned (net : Net) (span : ℕ → ℕ) : Type 0 where
  pub edge : (i : ℕ) → 0 < i → i ≤ net.events → span i < net.edges
  pub from : (i : ℕ) → 0 < i → i ≤ net.events → net.tail (span i) ≡ hi net i
  pub to : (i : ℕ) → 0 < i → i ≤ net.events → net.head (span i) ≡ lo net i
  pub free : (i : ℕ) → 0 < i → i ≤ net.events → net.cost (span i) ≤ net.bias

pub spanned_ordered : (net : Net) (span : ℕ → ℕ) → Spanned net span → (q : ℕ) (p : ℕ → ℕ) → Feasible (refined q net) p → Ordered net p
spanned_ordered net span s q p h i a b =
    omega (
      arith,
      h.meets (span i) (s.edge i a b),
      mul-le-mul_left q (s.free i a b),
      ap p (s.from i a b),
      ap p (s.to i a b),
    )
