-- A network that grows by an edge at a time, with no flow: first the boxes, then one demand after the other.
use Rattle.std.specs.Prelude.{ℕ, ◌+◌, ◌*◌, ◌-◌, ◌≤◌, ◌<◌, ◌≡◌, List, length}
use Rattle.std.proofs.Common.{sym, ◌∙◌, arith, below_more}
use Rattle.network.specs.Network.{Meets}
use Rattle.network.specs.Stored.{at, tail_of, head_of, cost_of, flow_of, stored, Demand, Network, Potential}
use Rattle.network.specs.Edges.{EdgeIs, edge_meets, Extends, Boxes, by_boxes}
use Rattle.network.specs.Index.{end_of, Index, Last, index_none}

-- m edges with no flow, and a potential
pub record Flowless (net : List ℕ) (m nodes : ℕ) (pot : List ℕ) : Type 0 where
  pub network : Network net m nodes
  pub potential : Potential net m pot
  pub flows : (e : ℕ) → e < m → flow_of net e ≡ 0

-- and the lists of the edges past the boxes, by tail and by head
pub record Growing (net : List ℕ) (m nodes : ℕ) (pot tails heads : List ℕ) : Type 0 where
  pub flowless : Flowless net m nodes pot
  pub by_tail : Index net m (2 * nodes - 2) 0 tails
  pub by_head : Index net m (2 * nodes - 2) 1 heads

-- every potential of the edges below m breaks the demand of an edge from a to b at the biased cost c
abbrev pub Impossible : List ℕ → ℕ → ℕ → ℕ → ℕ → Type 0
Impossible net m a b c = (q : ℕ → ℕ) → ((e : ℕ) → e < m → Meets (stored 0 0 net) q e) → q a + c < q b + 1000000

-- ---- a store past the edges

module _ {net net' : List ℕ} {m : ℕ} (x : Extends net net' m) where
  extends_network : {nodes : ℕ} → Network net m nodes → Network net' m nodes
  extends_network N =
      record {
        size = omega (arith, x.long, N.size);
        some = N.some;
        few = N.few;
        tails = λ e l. rw (x.before (4 * e) (omega arith)) (N.tails e l);
        heads = λ e l. rw (x.before (4 * e + 1) (omega arith)) (N.heads e l);
        costs = λ e l. rw (x.before (4 * e + 2) (omega arith)) (N.costs e l);
        rules = N.rules;
        links = N.links;
        down = λ v l p.
            let lm = N.links v l p in (
              x.before (4 * (2 * v - 2)) (omega arith) ∙ (N.down v l p).0,
              x.before (4 * (2 * v - 2) + 1) (omega arith) ∙ (N.down v l p).1,
              rw (x.before (4 * (2 * v - 2) + 2) (omega arith)) (N.down v l p).2,
            );
        up = λ v l p.
            let lm = N.links v l p in
            (x.before (4 * (2 * v - 1)) (omega arith) ∙ (N.up v l p).0, x.before (4 * (2 * v - 1) + 1) (omega arith) ∙ (N.up v l p).1);
      }

  pub extends_meets : (q : ℕ → ℕ) (e : ℕ) → e < m → Meets (stored 0 0 net) q e → Meets (stored 0 0 net') q e
  extends_meets q e l h = rw (x.before (4 * e) (omega arith), x.before (4 * e + 1) (omega arith), x.before (4 * e + 2) (omega arith)) h

  extends_flowless : {nodes : ℕ} {pot : List ℕ} → Flowless net m nodes pot → Flowless net' m nodes pot
  extends_flowless {nodes} {pot} F =
      record {
        network = extends_network F.network;
        potential =
            record {
              long = F.potential.long;
              origin = F.potential.origin;
              feasible = λ e l. extends_meets (at pot) e l (F.potential.feasible e l);
              tight = λ e l p. absurd (omega (arith, flows e l));
            };
        flows = flows;
      }
    where
      flows : (e : ℕ) → e < m → flow_of net' e ≡ 0
      flows e l = x.before (4 * e + 3) (omega arith) ∙ F.flows e l

  extends_index : {base side : ℕ} {list : List ℕ} → side ≤ 1 → Index net m base side list → Index net' m base side list
  extends_index {base} {side} {list} ls I =
      record {
        long = I.long;
        first = λ v l. last v m (omega arith) (at list v) (I.first v l);
        next = λ e a b. rw (same e b) (last (end_of net side e) e (omega arith) _ (I.next e a b));
      }
    where
      same : (e : ℕ) → e < m → end_of net' side e ≡ end_of net side e
      same e l = x.before (4 * e + side) (omega arith)

      last : (v n : ℕ) → n ≤ m → (y : ℕ) → Last net base side v n y → Last net' base side v n y
      last v n le y h =
          record {
            below = h.below;
            none = λ e a b c q. h.none e a b c (sym (same e (omega arith)) ∙ q);
            hit = λ p. ((h.hit p).0, same (y - 1) (omega (arith, h.below)) ∙ (h.hit p).1);
          }

  pub extends_growing : {nodes : ℕ} {pot tails heads : List ℕ} → Growing net m nodes pot tails heads → Growing net' m nodes pot tails heads
  extends_growing G =
      record {
        flowless = extends_flowless G.flowless;
        by_tail = extends_index (omega arith) G.by_tail;
        by_head = extends_index (omega arith) G.by_head;
      }

-- ---- one edge more

pub flowless_more : {net : List ℕ} {m nodes : ℕ} {pot : List ℕ} {a b c : ℕ} → Flowless net m nodes pot → EdgeIs net m a b c → 4 * m + 3 < length net → m < 4000
    → a < nodes → b < nodes → c ≤ 2000000 → at pot b + 1000000 ≤ at pot a + c → Flowless net (m + 1) nodes pot
flowless_more {net} {m} {nodes} {pot} {a} {b} {c} F E size room la lb lc d =
    record {
      network =
          record {
            size = omega arith;
            some = F.network.some;
            few = F.network.few;
            tails = below_more (λ e. tail_of net e < nodes) m F.network.tails (rw E.tail la);
            heads = below_more (λ e. head_of net e < nodes) m F.network.heads (rw E.head lb);
            costs = below_more (λ e. cost_of net e ≤ 2000000) m F.network.costs (rw E.cost lc);
            rules = omega arith;
            links = λ v l p. omega (arith, F.network.links v l p);
            down = F.network.down;
            up = F.network.up;
          };
      potential =
          record {
            long = F.potential.long;
            origin = F.potential.origin;
            feasible = below_more (λ e. Demand net pot e) m F.potential.feasible (edge_meets E 0 0 (at pot) d);
            tight = λ e l p. absurd (omega (arith, flows e l));
          };
      flows = flows;
    }
  where
    flows : (e : ℕ) → e < m + 1 → flow_of net e ≡ 0
    flows = below_more (λ e. flow_of net e ≡ 0) m F.flows E.flow

-- ---- the boxes alone

-- with lists of no edges, and a potential within the boxes
module _ {net : List ℕ} {last : ℕ} {low high : ℕ → ℕ} (B : Boxes net (last + 1) low high) (pot tails heads : List ℕ) (few : last ≤ 80) (size : 8 * last ≤ length net)
    (highs : (v : ℕ) → 0 < v → v < last + 1 → high v ≤ 1000000) (long : length pot ≡ 81) (origin : at pot 0 ≡ 0)
    (within : (v : ℕ) → 0 < v → v < last + 1 → (low v ≤ at pot v) × (at pot v ≤ high v))
    (long_tails : 81 ≤ length tails) (zero_tails : (k : ℕ) → k < 81 → at tails k ≡ 0)
    (long_heads : 81 ≤ length heads) (zero_heads : (k : ℕ) → k < 81 → at heads k ≡ 0) where
  flows : (e : ℕ) → e < 2 * last → flow_of net e ≡ 0
  flows = by_boxes (λ e. flow_of net e ≡ 0) last (λ v lo hi. ((B.down v lo hi).flow, (B.up v lo hi).flow))

  pub boxes_flowless : Flowless net (2 * last) (last + 1) pot
  boxes_flowless =
      record {
        network =
            record {
              size = omega arith;
              some = omega arith;
              few = omega arith;
              tails = by_boxes (λ e. tail_of net e < last + 1) last (λ v lo hi. (rw (B.down v lo hi).tail hi, rw (B.up v lo hi).tail (omega arith)));
              heads = by_boxes (λ e. head_of net e < last + 1) last (λ v lo hi. (rw (B.down v lo hi).head (omega arith), rw (B.up v lo hi).head hi));
              costs = by_boxes (λ e. cost_of net e ≤ 2000000) last (λ v lo hi. (omega (arith, (B.down v lo hi).cost), omega (arith, (B.up v lo hi).cost, highs v lo hi)));
              rules = omega arith;
              links = λ v l p. omega arith;
              down = λ v hi lo. ((B.down v lo hi).tail, (B.down v lo hi).head, omega (arith, (B.down v lo hi).cost));
              up = λ v hi lo. ((B.up v lo hi).tail, (B.up v lo hi).head);
            };
        potential =
            record {
              long = long;
              origin = origin;
              feasible = by_boxes (λ e. Demand net pot e) last (λ v lo hi. (
                edge_meets (B.down v lo hi) 0 0 (at pot) (omega (arith, within v lo hi)),
                edge_meets (B.up v lo hi) 0 0 (at pot) (omega (arith, within v lo hi)),
              ));
              tight = λ e l p. absurd (omega (arith, flows e l));
            };
        flows = flows;
      }

  pub boxes_growing : Growing net (2 * last) (last + 1) pot tails heads
  boxes_growing =
      let base : 2 * (last + 1) - 2 ≡ 2 * last = omega arith in
      record {
        flowless = boxes_flowless;
        by_tail = rw base (index_none net (2 * last) 0 tails long_tails zero_tails);
        by_head = rw base (index_none net (2 * last) 1 heads long_heads zero_heads);
      }
