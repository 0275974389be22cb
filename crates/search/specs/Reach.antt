-- A search that ends at a node with a goal: of the nodes that are reached, the first `seen` have none.
use Rattle.std.specs.Prelude.{ℕ, ◌+◌, ◌*◌, ◌-◌, ◌≤◌, ◌<◌, ◌≡◌, refl, Option, Some, None, IfSome, IfNone, List, length}
use Rattle.std.proofs.Common.{sym, ap, ◌∙◌, ⊎_elim, arith, eq-or-lt_of_le, below_none, get_or-set_other}
use Rattle.std.proofs.Math.Logic.{by_cases}
use Rattle.std.proofs.Math.Decide.{dec_lt}
use Rattle.network.specs.Stored.{at, Network, Potential}
use Rattle.network.specs.Index.{Index}
use Rattle.search.specs.Tree.{Reached}
use Rattle.visit.specs.declared.Trail.{Trail}
use Rattle.visit.specs.Search.{started, joined, Search, search_start}
use Rattle.search.specs.Nearest.{Nearest, keys_from, nearest_out, search_nearest}
use Rattle.scan.specs.Sweep.{Scanned}
use Rattle.search.specs.Raise.{Movable, Moved, search_room, search_reached}

-- of the places from lo on and below hi, r is the node of the last whose node has a goal, or none has
pub record Goals (order goal : List ℕ) (lo hi : ℕ) (r : Option ℕ) : Type 0 where
  pub found : IfSome r (λ v. (k : ℕ) × (k < hi) × (at order k ≡ v) × (0 < at goal v))
  pub none : IfNone r ((k : ℕ) → lo ≤ k → k < hi → at goal (at order k) ≡ 0)

-- the places from k on and below hi have no goal
pub record NoGoal (order goal : List ℕ) (hi k : ℕ) : Type 0 where
  pub none : (j : ℕ) → k ≤ j → j < hi → at goal (at order j) ≡ 0

pub no_goal_more : {order goal : List ℕ} {hi k : ℕ} → NoGoal order goal hi k → 0 < k → at goal (at order (k - 1)) ≤ 0 → NoGoal order goal hi (k - 1)
no_goal_more {order} {goal} {hi} {k} h p z =
    record {
      none = λ j a l. ⊎_elim
          (λ (q : k - 1 ≡ j). omega (arith, ap (λ i. at goal (at order i)) q))
          (λ (lt : k - 1 < j). h.none j (omega arith) l)
          (eq-or-lt_of_le a);
    }

pub goals_none : {order goal : List ℕ} {lo hi k : ℕ} → NoGoal order goal hi k → k ≤ lo → Goals order goal lo hi None
goals_none h l = record { found = tt; none = λ j a lj. h.none j (omega arith) lj }

pub goals_found : {order goal : List ℕ} {lo hi k : ℕ} → k < hi → 0 < at goal (at order k) → Goals order goal lo hi (Some (at order k))
goals_found {k = k} l p = record { found = (k, l, refl, p); none = tt }

-- how a search ends, once the potential is moved by the distance that it came to
pub record Explored (net : List ℕ) (m nodes : ℕ) (pot : List ℕ) (trail : Trail) (root : ℕ) (goal : List ℕ) (r : Option ℕ) : Type 0 where
  pub room : Movable pot trail.dist trail.distance nodes
  pub rooted : trail.root ≡ root
  pub outcome : (pot' : List ℕ) → length pot' ≡ 81 → Moved pot pot' trail.dist trail.distance nodes → Reached net m nodes pot' trail.stamp trail.via root goal r

-- at the distance 0 nothing moves
pub explored_here : {net : List ℕ} {m nodes : ℕ} {pot : List ℕ} {trail : Trail} {root : ℕ} {goal : List ℕ} {r : Option ℕ}
    → Explored net m nodes pot trail root goal r → trail.distance ≤ 0 → Reached net m nodes pot trail.stamp trail.via root goal r
explored_here {pot = pot} h z = h.outcome pot h.room.long (λ v l. omega arith)

pub record Searching (net : List ℕ) (m nodes : ℕ) (pot : List ℕ) (trail : Trail) (root : ℕ) (goal : List ℕ) (seen : ℕ) : Type 0 where
  pub search : Search net m nodes pot trail
  pub rooted : trail.root ≡ root
  pub scanned : trail.scanned ≤ seen
  pub reached : seen ≤ trail.reached
  pub none : (k : ℕ) → k < seen → at goal (at trail.order k) ≡ 0

module _ {net : List ℕ} {m nodes : ℕ} {pot : List ℕ} {trail : Trail} {root : ℕ} {goal : List ℕ} {seen : ℕ} (S : Searching net m nodes pot trail root goal seen) where
  pub counts : (0 < trail.reached) × (trail.reached ≤ nodes) × (nodes ≤ 81)
  counts = (
    omega (arith, S.search.rooted.0, (S.search.place trail.root S.search.inside (omega (arith, S.search.rooted.0))).0),
    omega (arith, S.search.count),
    S.search.network.few,
  )

  pub goal_asks : (seen ≤ trail.reached) × (trail.reached ≤ 81) × ((k : ℕ) → k < trail.reached → at trail.order k < 81)
  goal_asks = (S.reached, omega (arith, counts), λ k l. omega (arith, (S.search.queue k l).0, S.search.network.few))

  pub next_asks : (at trail.order (trail.reached - 1) < 81) × ((v : ℕ) → v < 81 → trail.distance ≤ at trail.key v)
  next_asks = (goal_asks.2 (trail.reached - 1) (omega (arith, counts)), keys_from S.search)

  -- no node that is reached has a goal
  searching_all : Goals trail.order goal seen trail.reached None → Searching net m nodes pot trail root goal trail.reached
  searching_all G =
      record {
        search = S.search;
        rooted = S.rooted;
        scanned = S.search.scanned;
        reached = omega arith;
        none = λ k lk. by_cases (dec_lt k seen) (λ a. S.none k a) (λ a. G.none k (omega arith) lk);
      }

  -- Each turn, no node that is reached has a goal.
  module _ (G : Goals trail.order goal seen trail.reached None) (more : seen < nodes) where
    -- a node that waits is scanned
    module _ (ne : trail.scanned ≡ trail.reached → ⊥) where
      pub scan_asks : trail.scanned < trail.reached
      scan_asks = omega (arith, S.search.scanned)

      pub searching_scan : {trail' : Trail} → Scanned net m nodes pot trail trail' → Searching net m nodes pot trail' root goal trail.reached
      searching_scan C =
          let A = searching_all G in
          record {
            search = C.search;
            rooted = C.same.0 ∙ S.rooted;
            scanned = omega (arith, scan_asks, C.same.1);
            reached = C.grew;
            none = λ k lk. ap (at goal) (C.orders k lk) ∙ A.none k lk;
          }

      pub scan_less : {trail' : Trail} → Scanned net m nodes pot trail trail'
          → 2 * nodes - (trail'.reached + trail'.scanned) < 2 * nodes - (trail.reached + trail.scanned)
      scan_less C = omega (arith, C.grew, C.same.1, counts)

    -- or none waits, and the nearest node w is reached
    module _ (same : trail.scanned ≡ trail.reached) {w : ℕ} (h : Nearest trail.key w) where
      pub near_asks : (w < 81) × (trail.reached < 81)
      near_asks =
          let o = nearest_out S.search (omega (arith, counts)) (omega arith) (omega (arith, S.scanned)) w h in
          (omega (arith, o.0, S.search.network.few), omega (arith, S.search.network.few))

      pub searching_near : {trail' : Trail} → trail' ≡ joined (record trail { distance = at trail.dist w }) w
          → Searching net m nodes pot trail' root goal trail.reached
      searching_near q =
          let A = searching_all G in
          rw q
          (record {
            search = search_nearest S.search (omega (arith, counts)) (omega arith) (omega (arith, S.scanned)) w h;
            rooted = S.rooted;
            scanned = S.search.scanned;
            reached = omega arith;
            none = λ k lk. ap (at goal) (get_or-set_other trail.order trail.reached k w 0 (omega arith)) ∙ A.none k lk;
          })

      pub near_less : 2 * nodes - (trail.reached + 1 + trail.scanned) < 2 * nodes - (trail.reached + trail.scanned)
      near_less = omega (arith, counts)

  pub explored_goal : {v : ℕ} → Goals trail.order goal seen trail.reached (Some v) → Explored net m nodes pot trail root goal (Some v)
  explored_goal {v} G =
      let k = G.found in
      let q = S.search.queue k.0 k.1 in
      record {
        room = search_room S.search;
        rooted = S.rooted;
        outcome = λ pot' long mv. rw S.rooted at (search_reached S.search pot' long mv goal (Some v) (rw k.2 at q.0, omega (arith, q.1, ap (at trail.stamp) k.2), k.3) tt);
      }

  pub explored_all : nodes ≤ seen → Explored net m nodes pot trail root goal None
  explored_all le =
      record {
        room = search_room S.search;
        rooted = S.rooted;
        outcome = λ pot' long mv. rw S.rooted at (search_reached S.search pot' long mv goal None tt (
          omega (arith, S.reached),
          λ v lv p.
              let h = S.search.place v lv p in
              ap (at goal) (sym h.1) ∙ S.none (at trail.stamp v - 1) (omega (arith, h.0, counts, S.scanned)),
        ));
      }

-- what a search starts from
pub record Begins (net : List ℕ) (m nodes : ℕ) (pot tails heads : List ℕ) (root : ℕ) : Type 0 where
  pub network : Network net m nodes
  pub potential : Potential net m pot
  pub by_tail : Index net m (2 * nodes - 2) 0 tails
  pub by_head : Index net m (2 * nodes - 2) 1 heads
  pub inside : root < nodes

module _ {net : List ℕ} {m nodes : ℕ} {pot tails heads : List ℕ} {root : ℕ} (B : Begins net m nodes pot tails heads root) where
  pub root_small : root < 81
  root_small = omega (arith, B.inside, B.network.few)

  pub searching_start : {goal : List ℕ} (trail : Trail) → length trail.via ≡ 81 → length trail.order ≡ 81 → Searching net m nodes pot (started trail root) root goal 0
  searching_start trail lv lo =
      record {
        search = search_start trail root B.network B.potential lv lo B.inside;
        rooted = refl;
        scanned = omega arith;
        reached = omega arith;
        none = below_none _;
      }
