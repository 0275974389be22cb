-- A search from a root by distances. The distance of a node is the least sum of slacks of the edges found so far from it to the root; an edge
-- with flow leads back at no slack. `reached` nodes are reached: they have the stamps 1 to `reached`, in `order`, and distances of at most `distance`. Of these
-- the first `scanned` are scanned: all edges at them are relaxed. The others, and the nodes that are not reached, have distances of at least `distance`.
use Rattle.std.specs.Prelude.{ℕ, zero, suc, ◌+◌, ◌-◌, ◌≤◌, ◌<◌, ◌≡◌, refl, List, length, set, replicate}
use Rattle.std.proofs.Common.{sym, ap, ◌∙◌, ⊎_elim, arith, eq-or-lt_of_le, length-set, get_or-set_same, get_or-set_other}
use Rattle.std.proofs.Math.Logic.{by_cases}
use Rattle.std.proofs.Math.Decide.{ℕ_discrete}
use Rattle.network.specs.Stored.{at, tail_of, head_of, cost_of, flow_of, Network, Potential}
use Rattle.network.specs.Lists.{by_zero, zeros, zeros_set, zeros_none, zeros_all, zeros_at}
use Rattle.std.proofs.lemmas.List.{get_or-replicate}
use Rattle.visit.specs.declared.Trail.{Trail}

-- edge e is relaxed: its tail is no farther than its head by more than its slack
abbrev pub Into : List ℕ → List ℕ → List ℕ → ℕ → Type 0
Into net pot dist e = at dist (tail_of net e) + (at pot (head_of net e) + 1000000) ≤ at dist (head_of net e) + (at pot (tail_of net e) + cost_of net e)

-- and back, where flow runs: its head is no farther than its tail
abbrev pub Back : List ℕ → List ℕ → ℕ → Type 0
Back net dist e = 0 < flow_of net e → at dist (head_of net e) ≤ at dist (tail_of net e)

-- edge e is relaxed as an edge at node w
pub record Relaxed (net pot dist : List ℕ) (w e : ℕ) : Type 0 where
  pub into : head_of net e ≡ w → Into net pot dist e
  pub back : tail_of net e ≡ w → Back net dist e

-- edge e leads from v to a reached node, at the distance x; forth, or back with flow
pub record Offer (net : List ℕ) (m : ℕ) (pot stamp dist : List ℕ) (v e x : ℕ) : Type 0 where
  pub edge : e < m
  pub forth : tail_of net e ≡ v → (0 < at stamp (head_of net e)) × (x + (at pot (head_of net e) + 1000000) ≡ at dist (head_of net e) + (at pot v + cost_of net e))
  pub back : (tail_of net e ≡ v → ⊥) → (0 < at stamp (tail_of net e)) × (head_of net e ≡ v) × (0 < flow_of net e)

-- and that node was reached before v
pub record Before (net stamp : List ℕ) (v e : ℕ) : Type 0 where
  pub forth : tail_of net e ≡ v → at stamp (head_of net e) < at stamp v
  pub back : (tail_of net e ≡ v → ⊥) → at stamp (tail_of net e) < at stamp v

-- the key of a node is its distance, if it is not reached, else 8000000
pub record Key (s x k : ℕ) : Type 0 where
  pub out : s ≡ 0 → k ≡ x
  pub reached : 0 < s → k ≡ 8000000

-- so is the key of what is no node
pub record Keyed (nodes : ℕ) (stamp dist key : List ℕ) : Type 0 where
  pub long : length key ≡ 81
  pub keys : (v : ℕ) → v < nodes → Key (at stamp v) (at dist v) (at key v)
  pub rest : (v : ℕ) → nodes ≤ v → v < 81 → at key v ≡ 8000000

module _ {nodes : ℕ} {stamp dist key : List ℕ} (few : nodes ≤ 81) (K : Keyed nodes stamp dist key) (v : ℕ) (lv : v < nodes) where
  -- it falls with the distance
  pub keyed_lower : (x : ℕ) → length dist ≡ 81 → at stamp v ≡ 0 → Keyed nodes stamp (set dist v x) (set key v x)
  keyed_lower x ld out =
      let long = K.long in
      record {
        long = simp length-set long;
        keys = λ u lu. by_cases (ℕ_discrete u v)
            (λ q. rw (q, get_or-set_same dist v x 0 (omega arith), get_or-set_same key v x 0 (omega arith))
            (record { out = λ _. refl; reached = λ p. absurd (omega arith) }))
            (λ q. rw (get_or-set_other dist v u x 0 q, get_or-set_other key v u x 0 q) (K.keys u lu));
        rest = λ u a b. rw (get_or-set_other key v u x 0 (omega arith)) (K.rest u a b);
      }

  -- and goes when it is reached
  pub keyed_join : (n : ℕ) → length stamp ≡ 81 → 0 < n → Keyed nodes (set stamp v n) dist (set key v 8000000)
  keyed_join n ls pn =
      let long = K.long in
      record {
        long = simp length-set long;
        keys = λ u lu. by_cases (ℕ_discrete u v)
            (λ q. rw (q, get_or-set_same stamp v n 0 (omega arith), get_or-set_same key v 8000000 0 (omega arith))
            (record { out = λ z. absurd (omega arith); reached = λ _. refl }))
            (λ q. rw (get_or-set_other stamp v u n 0 q, get_or-set_other key v u 8000000 0 q) (K.keys u lu));
        rest = λ u a b. rw (get_or-set_other key v u 8000000 0 (omega arith)) (K.rest u a b);
      }

-- room for a search, with zeros alone
abbrev pub unstarted : Trail
unstarted =
    record {
      root = 0;
      stamp = replicate 81 0;
      via = replicate 81 0;
      dist = replicate 81 0;
      order = replicate 81 0;
      reached = 0;
      scanned = 0;
      key = replicate 81 0;
      distance = 0;
    }

-- root alone is reached
abbrev pub started : Trail → ℕ → Trail
started trail root =
    record {
      root = root;
      stamp = set (replicate 81 0) root 1;
      via = trail.via;
      dist = set (replicate 81 8000000) root 0;
      order = set trail.order 0 root;
      reached = 1;
      scanned = 0;
      key = replicate 81 8000000;
      distance = 0;
    }

-- node v is at distance x now, by edge e
abbrev pub lowered : Trail → ℕ → ℕ → ℕ → Trail
lowered trail v e x = record trail { via = set trail.via v e; dist = set trail.dist v x; key = set trail.key v x }

-- node v is reached now
abbrev pub joined : Trail → ℕ → Trail
joined trail v = record trail { stamp = set trail.stamp v (trail.reached + 1); order = set trail.order trail.reached v; key = set trail.key v 8000000; reached = trail.reached + 1 }

pub record Search (net : List ℕ) (m nodes : ℕ) (pot : List ℕ) (trail : Trail) : Type 0 where
  pub network : Network net m nodes
  pub potential : Potential net m pot
  pub inside : trail.root < nodes
  pub sizes : (length trail.stamp ≡ 81) × (length trail.via ≡ 81) × (length trail.dist ≡ 81) × (length trail.order ≡ 81)
  pub rooted : (at trail.stamp trail.root ≡ 1) × (at trail.dist trail.root ≡ 0)
  pub count : trail.reached + zeros trail.stamp nodes ≡ nodes
  pub scanned : trail.scanned ≤ trail.reached
  pub queue : (k : ℕ) → k < trail.reached → (at trail.order k < nodes) × (at trail.stamp (at trail.order k) ≡ k + 1)
  pub place : (v : ℕ) → v < nodes → 0 < at trail.stamp v → (at trail.stamp v ≤ trail.reached) × (at trail.order (at trail.stamp v - 1) ≡ v)
  pub near : (v : ℕ) → v < nodes → 0 < at trail.stamp v → at trail.dist v ≤ trail.distance
  pub far : (v : ℕ) → v < nodes → at trail.stamp v ≡ 0 → trail.distance ≤ at trail.dist v
  pub waiting : (v : ℕ) → v < nodes → trail.scanned < at trail.stamp v → trail.distance ≤ at trail.dist v
  pub offers : (v : ℕ) → v < nodes → (v ≡ trail.root → ⊥) → at trail.dist v < 8000000 → Offer net m pot trail.stamp trail.dist v (at trail.via v) (at trail.dist v)
  pub linked : (v : ℕ) → v < nodes → (v ≡ trail.root → ⊥) → 0 < at trail.stamp v → Before net trail.stamp v (at trail.via v)
  pub into : (e : ℕ) → e < m → 0 < at trail.stamp (head_of net e) → at trail.stamp (head_of net e) ≤ trail.scanned → Into net pot trail.dist e
  pub back : (e : ℕ) → e < m → 0 < at trail.stamp (tail_of net e) → at trail.stamp (tail_of net e) ≤ trail.scanned → Back net trail.dist e
  pub keyed : Keyed nodes trail.stamp trail.dist trail.key
  pub bound : trail.distance ≤ 2000000

-- no distance rises, and those of at most d stay; no stamp of a reached node changes
pub record Fell (stamp dist stamp' dist' : List ℕ) (d : ℕ) : Type 0 where
  pub falls : (u : ℕ) → at dist' u ≤ at dist u
  pub stays : (u : ℕ) → at dist u ≤ d → at dist' u ≡ at dist u
  pub stamps : (u : ℕ) → 0 < at stamp u → at stamp' u ≡ at stamp u

pub fell_none : {stamp dist : List ℕ} {d : ℕ} → Fell stamp dist stamp dist d
fell_none = record { falls = λ u. omega arith; stays = λ u l. refl; stamps = λ u l. refl }

pub fell_more : {stamp dist stamp' dist' stamp'' dist'' : List ℕ} {d : ℕ} → Fell stamp dist stamp' dist' d → Fell stamp' dist' stamp'' dist'' d
    → Fell stamp dist stamp'' dist'' d
fell_more f g =
    record {
      falls = λ u. omega (arith, f.falls u, g.falls u);
      stays = λ u l. g.stays u (omega (arith, f.stays u l)) ∙ f.stays u l;
      stamps = λ u l. g.stamps u (omega (arith, f.stamps u l)) ∙ f.stamps u l;
    }

-- what is relaxed at a node of distance at most d stays so
pub relaxed_fell : {net pot stamp dist stamp' dist' : List ℕ} {d w e : ℕ} → Fell stamp dist stamp' dist' d → at dist w ≤ d
    → Relaxed net pot dist w e → Relaxed net pot dist' w e
relaxed_fell {net} {pot} {stamp} {dist} {stamp'} {dist'} {d} {w} {e} f l r =
    record {
      into = λ q. omega (arith, r.into q, f.falls (tail_of net e), f.stays (head_of net e) (omega (arith, ap (at dist) q)));
      back = λ q p. omega (arith, r.back q p, f.falls (head_of net e), f.stays (tail_of net e) (omega (arith, ap (at dist) q)));
    }

-- ---- the steps of a search

module _ {net : List ℕ} {m nodes : ℕ} {pot : List ℕ} {trail : Trail} (S : Search net m nodes pot trail) where
  pub reached_more : (v : ℕ) → v < nodes → at trail.stamp v ≡ 0 → trail.reached < nodes
  reached_more v l z = go (zeros_lt trail.stamp nodes v l z) S.count
    where
      zeros_lt : (st : List ℕ) (n v : ℕ) → v < n → at st v ≡ 0 → 0 < zeros st n
      zeros_lt st n v l z = by_zero (zeros st n) (λ q. absurd (omega (arith, zeros_none st n q v l))) (λ p. p)

      go : 0 < zeros trail.stamp nodes → trail.reached + zeros trail.stamp nodes ≡ nodes → trail.reached < nodes
      go p q = omega arith

  -- a node that is not reached, v, gets the smaller distance x by edge e
  module _ (v e x : ℕ) (lv : v < nodes) (out : at trail.stamp v ≡ 0) (less : x < at trail.dist v) (le : trail.distance ≤ x) (o : Offer net m pot trail.stamp trail.dist v e x) where
    other : (l : List ℕ) (y u : ℕ) → 0 < at trail.stamp u → at (set l v y) u ≡ at l u
    other l y u p = get_or-set_other l v u y 0 (λ q. omega (arith, ap (at trail.stamp) q))

    fell : Fell trail.stamp trail.dist trail.stamp (set trail.dist v x) trail.distance
    fell =
        record {
          falls = λ u. by_cases (ℕ_discrete u v)
              (λ q. rw (q, get_or-set_same trail.dist v x 0 (omega (arith, S.sizes.2, S.network.few))) (omega arith))
              (λ q. rw (get_or-set_other trail.dist v u x 0 q) (omega arith));
          stays = λ u l. get_or-set_other trail.dist v u x 0 (λ q. omega (arith, ap (at trail.dist) q));
          stamps = λ u l. refl;
        }

    same_offer : (u k y : ℕ) → Offer net m pot trail.stamp trail.dist u k y → Offer net m pot trail.stamp (set trail.dist v x) u k y
    same_offer u k y h =
        record {
          edge = h.edge;
          forth = λ q. let f = h.forth q in (f.0, rw (other trail.dist x (head_of net k) f.0) f.1);
          back = h.back;
        }

    pub search_lower : Search net m nodes pot (lowered trail v e x)
    search_lower =
        record {
          network = S.network;
          potential = S.potential;
          inside = S.inside;
          sizes = (S.sizes.0, simp length-set S.sizes.1, simp length-set S.sizes.2, S.sizes.3);
          rooted = (S.rooted.0, other trail.dist x trail.root (omega (arith, S.rooted.0)) ∙ S.rooted.1);
          count = S.count;
          scanned = S.scanned;
          queue = S.queue;
          place = S.place;
          near = λ u lu p. rw (other trail.dist x u p) (S.near u lu p);
          far = λ u lu z. by_cases (ℕ_discrete u v)
              (λ q. rw (q, here) le)
              (λ q. rw (get_or-set_other trail.dist v u x 0 q) (S.far u lu z));
          waiting = λ u lu p. rw (other trail.dist x u (omega arith)) (S.waiting u lu p);
          offers = λ u lu ne p. by_cases (ℕ_discrete u v)
              (λ q. rw (q, here, get_or-set_same trail.via v e 0 (omega (arith, S.sizes.1, S.network.few))) (same_offer v e x o))
              (λ q. rw (get_or-set_other trail.via v u e 0 q, get_or-set_other trail.dist v u x 0 q)
              (same_offer u (at trail.via u) (at trail.dist u) (S.offers u lu ne (rw (get_or-set_other trail.dist v u x 0 q) at p))));
          linked = λ u lu ne p. rw (other trail.via e u p) (S.linked u lu ne p);
          into = λ k lk p l. omega (arith, S.into k lk p l, fell.falls (tail_of net k), other trail.dist x (head_of net k) p);
          back = λ k lk p l f. omega (arith, S.back k lk p l f, fell.falls (head_of net k), other trail.dist x (tail_of net k) p);
          keyed = keyed_lower S.network.few S.keyed v lv x S.sizes.2 out;
          bound = S.bound;
        }
      where
        here : at (set trail.dist v x) v ≡ x
        here = get_or-set_same trail.dist v x 0 (omega (arith, S.sizes.2, S.network.few))

    pub lower_fell : Fell trail.stamp trail.dist trail.stamp (set trail.dist v x) trail.distance
    lower_fell = fell

    pub lower_here : at (set trail.dist v x) v ≡ x
    lower_here = get_or-set_same trail.dist v x 0 (omega (arith, S.sizes.2, S.network.few))

  -- a node that is not reached, v, is reached at the search's distance
  module _ (v : ℕ) (lv : v < nodes) (out : at trail.stamp v ≡ 0) (close : at trail.dist v ≤ trail.distance) where
    still : (y u : ℕ) → 0 < at trail.stamp u → at (set trail.stamp v y) u ≡ at trail.stamp u
    still y u p = get_or-set_other trail.stamp v u y 0 (λ q. omega (arith, ap (at trail.stamp) q))

    now : at (set trail.stamp v (trail.reached + 1)) v ≡ trail.reached + 1
    now = get_or-set_same trail.stamp v (trail.reached + 1) 0 (omega (arith, S.sizes.0, S.network.few))

    room : trail.reached < length trail.order
    room = omega (arith, reached_more v lv out, S.sizes.3, S.network.few)

    was : (u : ℕ) → (u ≡ v → ⊥) → 0 < at (set trail.stamp v (trail.reached + 1)) u → 0 < at trail.stamp u
    was u q p = rw (get_or-set_other trail.stamp v u (trail.reached + 1) 0 q) at p

    pub join_fell : Fell trail.stamp trail.dist (set trail.stamp v (trail.reached + 1)) trail.dist trail.distance
    join_fell = record { falls = λ u. omega arith; stays = λ u l. refl; stamps = λ u l. still (trail.reached + 1) u l }

    join_offer : (u k y : ℕ) → Offer net m pot trail.stamp trail.dist u k y → Offer net m pot (set trail.stamp v (trail.reached + 1)) trail.dist u k y
    join_offer u k y h =
        record {
          edge = h.edge;
          forth = λ q. let f = h.forth q in (rw (still (trail.reached + 1) (head_of net k) f.0) f.0, f.1);
          back = λ q. let b = h.back q in (rw (still (trail.reached + 1) (tail_of net k) b.0) b.0, b.1, b.2);
        }

    pub search_join : Search net m nodes pot (joined trail v)
    search_join =
        record {
          network = S.network;
          potential = S.potential;
          inside = S.inside;
          sizes = (simp length-set S.sizes.0, S.sizes.1, S.sizes.2, simp length-set S.sizes.3);
          rooted = (still (trail.reached + 1) trail.root (omega (arith, S.rooted.0)) ∙ S.rooted.0, S.rooted.1);
          count = omega (arith, S.count, zeros_set trail.stamp nodes v (trail.reached + 1) lv (omega (arith, S.sizes.0, S.network.few)) out (omega arith));
          scanned = omega (arith, S.scanned);
          queue = λ k lk. by_cases (ℕ_discrete k trail.reached)
              (λ q. rw (q, get_or-set_same trail.order trail.reached v 0 room) (lv, now))
              (λ q.
              let h = S.queue k (omega arith) in
              rw (get_or-set_other trail.order trail.reached k v 0 q) (h.0, still (trail.reached + 1) (at trail.order k) (omega (arith, h.1)) ∙ h.1));
          place = λ u lu p. by_cases (ℕ_discrete u v)
              (λ q. rw (q, now) (omega arith, ap (at (set trail.order trail.reached v)) (top trail.reached) ∙ get_or-set_same trail.order trail.reached v 0 room))
              (λ q.
              let h = S.place u lu (was u q p) in
              rw (get_or-set_other trail.stamp v u (trail.reached + 1) 0 q)
              (omega (arith, h.0), get_or-set_other trail.order trail.reached (at trail.stamp u - 1) v 0 (λ z. omega (arith, h.0, was u q p)) ∙ h.1));
          near = λ u lu p. by_cases (ℕ_discrete u v)
              (λ q. rw q close)
              (λ q. S.near u lu (was u q p));
          far = λ u lu z. by_cases (ℕ_discrete u v)
              (λ q. rw q (S.far v lv out))
              (λ q. S.far u lu (rw (get_or-set_other trail.stamp v u (trail.reached + 1) 0 q) at z));
          waiting = λ u lu p. by_cases (ℕ_discrete u v)
              (λ q. rw q (S.far v lv out))
              (λ q. S.waiting u lu (rw (get_or-set_other trail.stamp v u (trail.reached + 1) 0 q) at p));
          offers = λ u lu ne p. join_offer u (at trail.via u) (at trail.dist u) (S.offers u lu ne p);
          linked = λ u lu ne p. by_cases (ℕ_discrete u v)
              (λ q. rw q (first (S.offers v lv (λ z. ne (q ∙ z)) (omega (arith, S.bound)))))
              (λ q.
              let b = S.linked u lu ne (was u q p) in
              let o = S.offers u lu ne (omega (arith, S.bound, S.near u lu (was u q p))) in
              record {
                forth = λ h. rw (get_or-set_other trail.stamp v u (trail.reached + 1) 0 q, still (trail.reached + 1) (head_of net (at trail.via u)) (o.forth h).0) (b.forth h);
                back = λ h. rw (get_or-set_other trail.stamp v u (trail.reached + 1) 0 q, still (trail.reached + 1) (tail_of net (at trail.via u)) (o.back h).0) (b.back h);
              });
          into = λ k lk p l. by_cases (ℕ_discrete (head_of net k) v)
              (λ q. absurd (omega (arith, S.scanned, ap (at (set trail.stamp v (trail.reached + 1))) q, now)))
              (λ q. S.into k lk (was (head_of net k) q p) (rw (get_or-set_other trail.stamp v (head_of net k) (trail.reached + 1) 0 q) at l));
          back = λ k lk p l. by_cases (ℕ_discrete (tail_of net k) v)
              (λ q. absurd (omega (arith, S.scanned, ap (at (set trail.stamp v (trail.reached + 1))) q, now)))
              (λ q. S.back k lk (was (tail_of net k) q p) (rw (get_or-set_other trail.stamp v (tail_of net k) (trail.reached + 1) 0 q) at l));
          keyed = keyed_join S.network.few S.keyed v lv (trail.reached + 1) S.sizes.0 (omega arith);
          bound = S.bound;
        }
      where
        top : (n : ℕ) → n + 1 - 1 ≡ n
        top n = omega arith

        first : Offer net m pot trail.stamp trail.dist v (at trail.via v) (at trail.dist v) → Before net (set trail.stamp v (trail.reached + 1)) v (at trail.via v)
        first o =
            record {
              forth = λ h. rw (now, still (trail.reached + 1) (head_of net (at trail.via v)) (o.forth h).0)
                  (omega (arith, (S.place (head_of net (at trail.via v)) (S.network.heads (at trail.via v) o.edge) (o.forth h).0).0));
              back = λ h. rw (now, still (trail.reached + 1) (tail_of net (at trail.via v)) (o.back h).0)
                  (omega (arith, (S.place (tail_of net (at trail.via v)) (S.network.tails (at trail.via v) o.edge) (o.back h).0).0));
            }

  -- all reached nodes are scanned, and no other is nearer than x
  pub search_farther : (x : ℕ) → trail.reached ≤ trail.scanned → trail.distance ≤ x → x ≤ 2000000 → ((v : ℕ) → v < nodes → at trail.stamp v ≡ 0 → x ≤ at trail.dist v)
      → Search net m nodes pot (record trail { distance = x })
  search_farther x all le lx least =
      record {
        network = S.network;
        potential = S.potential;
        inside = S.inside;
        sizes = S.sizes;
        rooted = S.rooted;
        count = S.count;
        scanned = S.scanned;
        queue = S.queue;
        place = S.place;
        near = λ v lv p. omega (arith, S.near v lv p);
        far = least;
        waiting = λ v lv p. absurd (omega (arith, (S.place v lv (omega arith)).0));
        offers = S.offers;
        linked = S.linked;
        into = S.into;
        back = S.back;
        keyed = S.keyed;
        bound = lx;
      }

  -- the next node that waits is scanned
  pub search_next : trail.scanned < trail.reached → ((e : ℕ) → e < m → Relaxed net pot trail.dist (at trail.order trail.scanned) e) → Search net m nodes pot (record trail { scanned = trail.scanned + 1 })
  search_next lt all =
      record {
        network = S.network;
        potential = S.potential;
        inside = S.inside;
        sizes = S.sizes;
        rooted = S.rooted;
        count = S.count;
        scanned = omega arith;
        queue = S.queue;
        place = S.place;
        near = S.near;
        far = S.far;
        waiting = λ v lv p. S.waiting v lv (omega arith);
        offers = S.offers;
        linked = S.linked;
        into = λ e le p l. ⊎_elim
            (λ q. (all e le).into (here (head_of net e) (S.network.heads e le) p q))
            (λ lt. S.into e le p (omega arith))
            (eq-or-lt_of_le l);
        back = λ e le p l. ⊎_elim
            (λ q. (all e le).back (here (tail_of net e) (S.network.tails e le) p q))
            (λ lt. S.back e le p (omega arith))
            (eq-or-lt_of_le l);
        keyed = S.keyed;
        bound = S.bound;
      }
    where
      here : (v : ℕ) → v < nodes → 0 < at trail.stamp v → at trail.stamp v ≡ trail.scanned + 1 → v ≡ at trail.order trail.scanned
      here v lv p q = sym (S.place v lv p).1 ∙ ap (at trail.order) (omega arith)

-- ---- the start

search_from : {net : List ℕ} {m nodes : ℕ} {pot via : List ℕ} {root : ℕ} (stamp dist order key : List ℕ) → Network net m nodes → Potential net m pot
    → length stamp ≡ 81 → length via ≡ 81 → length dist ≡ 81 → length order ≡ 81 → length key ≡ 81 → root < nodes → at order 0 ≡ root
    → ((k : ℕ) → k < 81 → at stamp k ≡ 0) → ((k : ℕ) → k < 81 → at dist k ≡ 8000000) → ((k : ℕ) → k < 81 → at key k ≡ 8000000)
    → Search net m nodes pot
    (record { root = root; stamp = set stamp root 1; via = via; dist = set dist root 0; order = order; reached = 1; scanned = 0; key = key; distance = 0 })
search_from {net} {m} {nodes} {pot} {via} {root} stamp dist order key N P ls lv ld lo lk lr start clear fresh far =
    record {
      network = N;
      potential = P;
      inside = lr;
      sizes = (simp length-set ls, lv, simp length-set ld, lo);
      rooted = (first, zero_dist);
      count = omega (
        arith,
        zeros_all stamp nodes (λ k l. clear k (omega (arith, N.few))),
        zeros_set stamp nodes root 1 lr (omega (arith, N.few))
            (clear root (omega (arith, N.few))) (omega arith),
      );
      scanned = omega arith;
      queue = λ k lk. only k lk;
      place = λ v l p. by_cases (ℕ_discrete v root)
          (λ q. rw (q, first) (omega arith, start))
          (λ q. absurd (omega (arith, other v l q)));
      near = λ v l p. by_cases (ℕ_discrete v root)
          (λ q. rw (q, zero_dist) (omega arith))
          (λ q. absurd (omega (arith, other v l q)));
      far = λ v l z. omega arith;
      waiting = λ v l p. omega arith;
      offers = λ v l ne p. absurd (omega (arith, get_or-set_other dist root v 0 0 ne, fresh v (omega (arith, N.few))));
      linked = λ v l ne p. absurd (omega (arith, other v l ne));
      into = λ e le p l. absurd (omega arith);
      back = λ e le p l. absurd (omega arith);
      keyed =
          record {
            long = lk;
            keys = λ v l. by_cases (ℕ_discrete v root)
                (λ q. rw (q, first) (record { out = λ z. absurd (omega arith); reached = λ _. far root (omega (arith, N.few)) }))
                (λ q. record {
                  out = λ _. far v (omega (arith, N.few)) ∙ sym (get_or-set_other dist root v 0 0 q ∙ fresh v (omega (arith, N.few)));
                  reached = λ _. far v (omega (arith, N.few));
                });
            rest = λ v _ l. far v l;
          };
      bound = omega arith;
    }
  where
    first : at (set stamp root 1) root ≡ 1
    first = get_or-set_same stamp root 1 0 (omega (arith, N.few))

    zero_dist : at (set dist root 0) root ≡ 0
    zero_dist = get_or-set_same dist root 0 0 (omega (arith, N.few))

    other : (v : ℕ) → v < nodes → (v ≡ root → ⊥) → at (set stamp root 1) v ≡ 0
    other v l q = get_or-set_other stamp root v 1 0 q ∙ clear v (omega (arith, N.few))

    only : (k : ℕ) → k < 1 → (at order k < nodes) × (at (set stamp root 1) (at order k) ≡ k + 1)
    only zero lk = rw start (lr, first)
    only (suc k) lk = absurd (omega arith)

pub search_start : {net : List ℕ} {m nodes : ℕ} {pot : List ℕ} (trail : Trail) (root : ℕ) → Network net m nodes → Potential net m pot
    → length trail.via ≡ 81 → length trail.order ≡ 81 → root < nodes → Search net m nodes pot (started trail root)
search_start trail root N P lv lo lr =
    search_from (replicate 81 0) (replicate 81 8000000) (set trail.order 0 root) (replicate 81 8000000) N P refl lv refl (simp length-set lo) refl lr
    (get_or-set_same trail.order 0 root 0 (omega arith)) (λ k l. zeros_at 81 k) (λ k l. get_or-replicate 81 k 8000000 0 l) (λ k l. get_or-replicate 81 k 8000000 0 l)
