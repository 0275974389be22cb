-- The window network of a ticket in arrays: boxes of all opens and closes, the order of each window, the rules. A potential is feasible exactly when it
-- meets them: within the boxes, in order, and obeying the rules.
use Rattle.std.specs.Prelude.{◌≡◌, List, ℕ, suc, ◌+◌, ◌*◌, ◌-◌, ◌≤◌, ◌<◌, pos, length, get_or}
use Rattle.std.proofs.Common.{◌∙◌, subst, ⊎_elim, arith, below_more}
use Rattle.temporal.proofs.Lists.{below_or_not}
use Rattle.temporal.specs.Bound.{biased}
use Rattle.network.specs.Network as network
use Rattle.network.specs.Network.{Feasible}
use Rattle.network.specs.Stored.{at, flow_of, stored, Network}
use Rattle.network.specs.Edges.{EdgeIs, edge_meets, meets_edge, Extends, extends_edge, Put, Boxes, boxes_kept, by_boxes}
use Rattle.network.specs.Grow.{Flowless}
use Rattle.ticket.specs.declared.Ticket.{Ticket}
use Rattle.potentials.specs.Arrays.{Held}
use Rattle.potentials.specs.Nodes.{close_node, close_most}
use Rattle.demands.specs.Cost.{biased_most}
use Rattle.demands.specs.Rules.{Obeyed, obeyed_same}

-- ---- the edges

-- each of the first k events closes no sooner than it opens
abbrev pub Order : List ℕ → ℕ → ℕ → Type 0
Order net n k = (i : ℕ) → i < k → EdgeIs net (4 * n + i) (n + suc i) (suc i) 1000000

-- the first k rules, from the edge `base` on, each from its `from` to the close of its `to`
abbrev pub Ruled : List ℕ → Ticket → ℕ → ℕ → ℕ → Type 0
Ruled net t n base k = (j : ℕ) → j < k → EdgeIs net (base + j) (at t.from j) (close_node n (at t.to j)) (biased (get_or t.bound j (pos 0)))

pub order_more : {net net' : List ℕ} (n k : ℕ) → Order net n k → Put net net' (4 * n + k) (n + suc k) (suc k) 1000000 → Order net' n (k + 1)
order_more {net} {net'} n k O P = below_more (λ i. EdgeIs net' (4 * n + i) (n + suc i) (suc i) 1000000) k (λ i l. extends_edge P.extends (omega arith) (O i l)) P.edge

pub ruled_more : {net net' : List ℕ} (t : Ticket) (n base k : ℕ) → Ruled net t n base k
    → Put net net' (base + k) (at t.from k) (close_node n (at t.to k)) (biased (get_or t.bound k (pos 0))) → Ruled net' t n base (k + 1)
ruled_more {net} {net'} t n base k R P =
    below_more (λ j. EdgeIs net' (base + j) (at t.from j) (close_node n (at t.to j)) (biased (get_or t.bound j (pos 0)))) k
    (λ j l. extends_edge P.extends (omega arith) (R j l)) P.edge

abbrev pub edges : Ticket → ℕ
edges t = 5 * t.events + t.rules

pub record Built (net : List ℕ) (t : Ticket) (low high : ℕ → ℕ) : Type 0 where
  pub size : 4 * edges t ≤ length net
  pub boxes : Boxes net (2 * t.events + 1) low high
  pub order : Order net t.events t.events
  pub ruled : Ruled net t t.events (5 * t.events) t.rules

-- the parts, stored one after the other
pub built_by : {one two net : List ℕ} {t : Ticket} {low high : ℕ → ℕ} → 4 * edges t ≤ length net
    → Boxes one (2 * t.events + 1) low high → Extends one two (4 * t.events) → Order two t.events t.events
    → Extends two net (5 * t.events) → Ruled net t t.events (5 * t.events) t.rules → Built net t low high
built_by {t = t} size B x O y R = record {
  size = size;
  boxes = boxes_kept y (omega arith) (boxes_kept x (omega arith) B);
  order = λ i l. extends_edge y (omega arith) (O i l);
  ruled = R;
}

-- what holds of each kind of edge holds of every edge
by_edges : (P : ℕ → Type 0) (n m : ℕ)
    → ((v : ℕ) → 0 < v → v < 2 * n + 1 → P (2 * v - 2) × P (2 * v - 1))
    → ((i : ℕ) → i < n → P (4 * n + i))
    → ((j : ℕ) → j < m → P (5 * n + j))
    → (e : ℕ) → e < 5 * n + m → P e
by_edges P n m boxes order ruled e l =
    ⊎_elim
    (λ (q : e < 4 * n). by_boxes P (2 * n) boxes e (omega arith))
    (λ (q : 4 * n ≤ e).
    ⊎_elim
    (λ (s : e < 5 * n).
    let x : 4 * n + (e - 4 * n) ≡ e = omega arith in
    subst P x (order (e - 4 * n) (omega arith)))
    (λ (s : 5 * n ≤ e).
    let x : 5 * n + (e - 5 * n) ≡ e = omega arith in
    subst P x (ruled (e - 5 * n) (omega arith)))
    (below_or_not e (5 * n)))
    (below_or_not e (4 * n))

-- ---- what they ask of a potential

pub record Meeting (t : Ticket) (low high p : ℕ → ℕ) : Type 0 where
  pub origin : p 0 ≡ 0
  pub above_low : (v : ℕ) → 0 < v → v < 2 * t.events + 1 → low v ≤ p v
  pub below_high : (v : ℕ) → 0 < v → v < 2 * t.events + 1 → p v ≤ high v
  pub ordered : (i : ℕ) → i < t.events → p (suc i) ≤ p (t.events + suc i)
  pub obeys : Obeyed t t.events p

-- boxes that can be stored
abbrev pub Limits : Ticket → (ℕ → ℕ) → (ℕ → ℕ) → Type 0
Limits t low high = (v : ℕ) → 0 < v → v < 2 * t.events + 1 → (low v ≤ 1000000) × (high v ≤ 1000000)

pub meeting_same : {limit : ℕ} {t : Ticket} → Held limit t → (low high p q : ℕ → ℕ) → ((v : ℕ) → v < 2 * t.events + 1 → q v ≡ p v) → Meeting t low high p → Meeting t low high q
meeting_same {t = t} G low high p q e M = record {
  origin = e 0 (omega arith) ∙ M.origin;
  above_low = λ v lo hi. omega (arith, e v hi, M.above_low v lo hi);
  below_high = λ v lo hi. omega (arith, e v hi, M.below_high v lo hi);
  ordered = λ i l. omega (arith, e (suc i) (omega arith), e (t.events + suc i) (omega arith), M.ordered i l);
  obeys = obeyed_same G t.events p q (λ v l. e v (omega arith)) M.obeys;
}

module _ {net : List ℕ} {limit : ℕ} {t : Ticket} {low high : ℕ → ℕ} (B : Built net t low high) (G : Held limit t) (L : Limits t low high) where
  pub feasible_meeting : (p : ℕ → ℕ) → Feasible (stored t.events (edges t) net) p → Meeting t low high p
  feasible_meeting p F =
      let n = t.events in
      let m = edges t in
      record {
        origin = F.origin;
        above_low = λ v lo hi. omega (arith, F.origin, L v lo hi, meets_edge (B.boxes.down v lo hi) n m p (F.meets (2 * v - 2) (omega arith)));
        below_high = λ v lo hi. omega (arith, F.origin, meets_edge (B.boxes.up v lo hi) n m p (F.meets (2 * v - 1) (omega arith)));
        ordered = λ i l. omega (arith, meets_edge (B.order i l) n m p (F.meets (4 * n + i) (omega arith)));
        obeys = λ j l. meets_edge (B.ruled j l) n m p (F.meets (5 * n + j) (omega arith));
      }

  pub meeting_feasible : (p : ℕ → ℕ) → Meeting t low high p → Feasible (stored t.events (edges t) net) p
  meeting_feasible p M =
      let n = t.events in
      let m = edges t in
      record {
        origin = M.origin;
        meets = by_edges (λ e. network.Meets (stored t.events (edges t) net) p e) n t.rules
            (λ v lo hi. (
              edge_meets (B.boxes.down v lo hi) n m p (omega (arith, M.origin, M.above_low v lo hi, L v lo hi)),
              edge_meets (B.boxes.up v lo hi) n m p (omega (arith, M.origin, M.below_high v lo hi)),
            ))
            (λ i l. edge_meets (B.order i l) n m p (omega (arith, M.ordered i l)))
            (λ j l. edge_meets (B.ruled j l) n m p (M.obeys j l));
      }

  -- ---- the edges are a network with no flow

  built_flows : (e : ℕ) → e < edges t → flow_of net e ≡ 0
  built_flows =
      by_edges (λ e. flow_of net e ≡ 0) t.events t.rules
      (λ v lo hi. ((B.boxes.down v lo hi).flow, (B.boxes.up v lo hi).flow))
      (λ i l. (B.order i l).flow)
      (λ j l. (B.ruled j l).flow)

  built_network : limit ≤ 3800 → Network net (edges t) (2 * t.events + 1)
  built_network room =
      let n = t.events in
      record {
        size = B.size;
        some = omega arith;
        few = omega (arith, G.few);
        tails = by_edges (λ e. get_or net (4 * e) 0 < 2 * n + 1) n t.rules
            (λ v lo hi. (rw (B.boxes.down v lo hi).tail hi, rw (B.boxes.up v lo hi).tail (omega arith)))
            (λ i l. rw (B.order i l).tail (omega arith))
            (λ j l. rw (B.ruled j l).tail (omega (arith, G.from_point j l)));
        heads = by_edges (λ e. get_or net (4 * e + 1) 0 < 2 * n + 1) n t.rules
            (λ v lo hi. (rw (B.boxes.down v lo hi).head (omega arith), rw (B.boxes.up v lo hi).head hi))
            (λ i l. rw (B.order i l).head (omega arith))
            (λ j l. rw (B.ruled j l).head (omega (arith, close_most n (at t.to j), G.to_point j l)));
        costs = by_edges (λ e. get_or net (4 * e + 2) 0 ≤ 2000000) n t.rules
            (λ v lo hi. (omega (arith, (B.boxes.down v lo hi).cost), omega (arith, (B.boxes.up v lo hi).cost, L v lo hi)))
            (λ i l. omega (arith, (B.order i l).cost))
            (λ j l. omega (arith, (B.ruled j l).cost, biased_most (get_or t.bound j (pos 0)) (G.high j l)));
        rules = omega (arith, G.few, G.most);
        links = λ v hi lo. omega arith;
        down = λ v hi lo. ((B.boxes.down v lo hi).tail, (B.boxes.down v lo hi).head, omega (arith, (B.boxes.down v lo hi).cost));
        up = λ v hi lo. ((B.boxes.up v lo hi).tail, (B.boxes.up v lo hi).head);
      }

  pub built_flowless : limit ≤ 3800 → (pot : List ℕ) → length pot ≡ 81 → Meeting t low high (at pot) → Flowless net (edges t) (2 * t.events + 1) pot
  built_flowless room pot long M =
      let F = meeting_feasible (at pot) M in
      record {
        network = built_network room;
        potential = record { long = long; origin = F.origin; feasible = F.meets; tight = λ e l p. absurd (omega (arith, built_flows e l)) };
        flows = built_flows;
      }
