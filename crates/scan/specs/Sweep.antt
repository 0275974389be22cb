-- Visiting all edges at the node w that is scanned: its box edges, the edges whose head it is, and those whose tail it is.
use Rattle.std.specs.Prelude.{ℕ, ◌+◌, ◌*◌, ◌-◌, ◌≤◌, ◌<◌, ◌≡◌, refl, List, ◌⊎◌, length}
use Rattle.std.proofs.Common.{sym, ap, ◌∙◌, ⊎_elim, inl, inr, arith}
use Rattle.std.proofs.Math.Logic.{by_cases}
use Rattle.std.proofs.Math.Decide.{ℕ_discrete, dec_lt}
use Rattle.network.specs.Stored.{at, tail_of, head_of, Network}
use Rattle.visit.specs.declared.Trail.{Trail}
use Rattle.visit.specs.Search.{Relaxed, Search, fell_more, relaxed_fell, search_next}
use Rattle.network.specs.Index.{end_of, end_tail, Last, Index, box_edge, Listed, Unlisted, ListedFrom, list_next, list_cover}
use Rattle.visit.specs.Visit.{Step, step_to, Offered, Backed, Boxed, Onward, onward_none, Scans, Pair, scans_on, offer_room, step, visit_into, visit_back, pair_step, visit_pair}

-- a search went on, and the edges of which P holds are relaxed
pub record Swept (net : List ℕ) (m nodes : ℕ) (pot : List ℕ) (trail trail' : Trail) (w : ℕ) (P : ℕ → Type 0) : Type 0 where
  pub onward : Onward net m nodes pot trail trail'
  pub relaxed : (e : ℕ) → e < m → P e → Relaxed net pot trail'.dist w e

pub swept_none : {net : List ℕ} {m nodes : ℕ} {pot : List ℕ} {trail : Trail} {w : ℕ} {P : ℕ → Type 0}
    → Search net m nodes pot trail → ((e : ℕ) → e < m → P e → ⊥)
    → Swept net m nodes pot trail trail w P
swept_none S never = record { onward = onward_none S; relaxed = λ e le p. absurd (never e le p) }

-- w is at distance d at most
pub scan_dist : {net : List ℕ} {m nodes : ℕ} {pot : List ℕ} {trail : Trail} {w : ℕ}
    → Search net m nodes pot trail → Scans nodes trail w → at trail.dist w ≤ trail.distance
scan_dist {w = w} S sc = S.near w sc.inside (omega (arith, sc.stamped))

-- A search goes on after a sweep.
module _ {net : List ℕ} {m nodes : ℕ} {pot : List ℕ} {trail trail₁ : Trail}
    {w : ℕ} {P : ℕ → Type 0} (sc : Scans nodes trail w)
    (A : Swept net m nodes pot trail trail₁ w P) where
  -- w is still the node that is scanned
  pub scans_still : Scans nodes trail₁ w
  scans_still = scans_on sc A.onward

  -- Q is covered by P and what is relaxed since
  pub swept_more : {trail₂ : Trail} {Q : ℕ → Type 0}
      → Onward net m nodes pot trail₁ trail₂
      → ((e : ℕ) → e < m → Q e → (P e → Relaxed net pot trail₂.dist w e) → Relaxed net pot trail₂.dist w e)
      → Swept net m nodes pot trail trail₂ w Q
  swept_more B cover =
      record {
        onward =
            record {
              search = B.search;
              fell = fell_more A.onward.fell (rw A.onward.same.2 at B.fell);
              grew = omega (arith, A.onward.grew, B.grew);
              orders = λ k l. B.orders k (omega (arith, A.onward.grew)) ∙ A.onward.orders k l;
              same = (B.same.0 ∙ A.onward.same.0, B.same.1 ∙ A.onward.same.1, B.same.2 ∙ A.onward.same.2);
            };
        relaxed = λ e le q. cover e le q (λ p. relaxed_fell B.fell (scan_dist A.onward.search scans_still) (A.relaxed e le p));
      }

-- the edges below n
abbrev pub EdgesBelow : ℕ → ℕ → Type 0
EdgesBelow n e = e < n

-- one more edge of a list
pub list_more : {net : List ℕ} {m nodes : ℕ} {pot : List ℕ} {trail trail₁ trail₂ : Trail}
    {w base side x y : ℕ} → Scans nodes trail w
    → Swept net m nodes pot trail trail₁ w (ListedFrom net base side w x)
    → Onward net m nodes pot trail₁ trail₂ → Relaxed net pot trail₂.dist w (x - 1)
    → 0 < x → Last net base side (end_of net side (x - 1)) (x - 1) y → end_of net side (x - 1) ≡ w
    → Swept net m nodes pot trail trail₂ w (ListedFrom net base side w y)
list_more {net = net} {pot = pot} {trail₂ = trail₂} {w = w} sc A B r p L q =
    swept_more sc A B (λ e le. list_cover (Relaxed net pot trail₂.dist w) p L q r e)

-- ---- all edges at w

module _ {net : List ℕ} {m nodes : ℕ} (N : Network net m nodes) where
  -- the box edges between a node and the origin, seen from the origin and from the node
  pub pair_origin : (v : ℕ) → v < nodes → 0 < v → Pair net m 0 v (2 * v - 1 - 1) (2 * v - 1)
  pair_origin v lv p =
      let down = N.down v lv p in
      let same : 2 * v - 1 - 1 ≡ 2 * v - 2 = omega arith in
      record { edges = omega (arith, N.links v lv p); inward = rw same (down.0, down.1); outward = N.up v lv p }

  pub pair_node : (w : ℕ) → w < nodes → 0 < w → Pair net m w 0 (2 * w - 1) (2 * w - 1 - 1)
  pair_node w lw p =
      let down = N.down w lw p in
      let same : 2 * w - 1 - 1 ≡ 2 * w - 2 = omega arith in
      record { edges = omega (arith, N.links w lw p); inward = N.up w lw p; outward = rw same (down.0, down.1) }

  -- an edge that is not at w
  none : (pot dist : List ℕ) (w e : ℕ) → (head_of net e ≡ w → ⊥) → (tail_of net e ≡ w → ⊥) → Relaxed net pot dist w e
  none pot dist w e a b = record { into = λ q. absurd (a q); back = λ q. absurd (b q) }

  -- where the two box edges at w are relaxed, all are
  pub box_all : {pot dist : List ℕ} (w : ℕ) → 0 < w → Relaxed net pot dist w (2 * w - 1) × Relaxed net pot dist w (2 * w - 1 - 1)
      → (e : ℕ) → e < 2 * nodes - 2 → Relaxed net pot dist w e
  box_all {pot} {dist} w p r e l =
      let x = box_edge N e l in
      by_cases (ℕ_discrete x.0 w)
      (λ same. by_cases (ℕ_discrete e (2 * w - 1))
      (λ z. rw z r.0)
      (λ n. let z : e ≡ 2 * w - 1 - 1 = omega (arith, x.2.place) in rw z r.1))
      (λ differ. none pot dist w e
      (λ q. ⊎_elim
      (λ (h : (head_of net e ≡ 0) × (tail_of net e ≡ x.0)). omega arith)
      (λ (h : (tail_of net e ≡ 0) × (head_of net e ≡ x.0)). differ (sym h.1 ∙ q))
      x.2.ends)
      (λ q. ⊎_elim
      (λ (h : (head_of net e ≡ 0) × (tail_of net e ≡ x.0)). differ (sym h.1 ∙ q))
      (λ (h : (tail_of net e ≡ 0) × (head_of net e ≡ x.0)). omega arith)
      x.2.ends))

  -- what is relaxed in the three sweeps is all
  pub scan_all : (pot dist : List ℕ) (w e : ℕ) → (EdgesBelow (2 * nodes - 2) e → Relaxed net pot dist w e)
      → (Listed net (2 * nodes - 2) 1 w e → Relaxed net pot dist w e) → (Listed net (2 * nodes - 2) 0 w e → Relaxed net pot dist w e) → Relaxed net pot dist w e
  scan_all pot dist w e box heads tails =
      by_cases (dec_lt e (2 * nodes - 2))
      box
      (λ n.
      by_cases (ℕ_discrete (head_of net e) w)
      (λ q. heads (omega arith, q))
      (λ ne. by_cases (ℕ_discrete (tail_of net e) w)
      (λ q. tails (omega arith, end_tail net e ∙ q))
      (λ nt. none pot dist w e ne nt)))

-- the only box edges at a node above 0
module _ {net : List ℕ} {m nodes : ℕ} {pot : List ℕ} {trail : Trail} {w : ℕ}
    (S : Search net m nodes pot trail) (sc : Scans nodes trail w) (p : 0 < w) where
  pub node_asks : Step net pot (2 * w - 1) 0 w trail.distance × (4 * (2 * w - 1 - 1) + 3 < length net) × (trail.distance < at trail.dist 0 → trail.reached < 81)
  node_asks =
      let P = pair_node S.network w sc.inside p in
      (pair_step S w sc P, omega (arith, P.edges.1, S.network.size), offer_room S 0 S.network.some)

  pub node_swept : {trail' : Trail}
      → Boxed net pot trail trail' w 0 (2 * w - 1) (2 * w - 1 - 1)
      → Swept net m nodes pot trail trail' w (EdgesBelow (2 * nodes - 2))
  node_swept B =
      let h = visit_pair S w sc (pair_node S.network w sc.inside p) B in
      record { onward = h.0; relaxed = λ e le l. box_all S.network w p h.1 e l }

-- the box edges of one more node
box_more : {net : List ℕ} {m nodes : ℕ} {pot : List ℕ} {trail trail₁ trail₂ : Trail}
    {w : ℕ} (v : ℕ) → Scans nodes trail w
    → Swept net m nodes pot trail trail₁ w (EdgesBelow (2 * v - 2))
    → Onward net m nodes pot trail₁ trail₂
    → Relaxed net pot trail₂.dist w (2 * v - 1 - 1) × Relaxed net pot trail₂.dist w (2 * v - 1)
    → Swept net m nodes pot trail trail₂ w (EdgesBelow (2 * (v + 1) - 2))
box_more {net = net} {pot = pot} {trail₂ = trail₂} {w = w} v sc A B r =
    swept_more sc A B (λ e le q old. by_cases (dec_lt e (2 * v - 2))
    old
    (λ n. by_cases (ℕ_discrete e (2 * v - 1 - 1))
    (λ z. rw z r.0)
    (λ ne. let z : e ≡ 2 * v - 1 = omega arith in rw z r.1)))

-- The box edges at the origin, those of the nodes below v visited.
module _ {net : List ℕ} {m nodes : ℕ} {pot : List ℕ} {trail trail₁ : Trail} (v : ℕ)
    (sc : Scans nodes trail 0) (A : Swept net m nodes pot trail trail₁ 0 (EdgesBelow (2 * v - 2)))
    (p : 0 < v) (lv : v < nodes) where
  S : Search net m nodes pot trail₁
  S = A.onward.search

  pub origin_asks : Step net pot (2 * v - 1 - 1) v 0 trail₁.distance × (4 * (2 * v - 1) + 3 < length net) × (trail₁.distance < at trail₁.dist v → trail₁.reached < 81)
  origin_asks =
      let P = pair_origin S.network v lv p in
      (pair_step S 0 (scans_still sc A) P, omega (arith, P.edges.1, S.network.size), offer_room S v lv)

  pub origin_more : {trail₂ : Trail}
      → Boxed net pot trail₁ trail₂ 0 v (2 * v - 1 - 1) (2 * v - 1)
      → Swept net m nodes pot trail trail₂ 0 (EdgesBelow (2 * (v + 1) - 2))
  origin_more B =
      let h = visit_pair S 0 (scans_still sc A) (pair_origin S.network v lv p) B in
      box_more v sc A h.0 h.1

-- ---- a list of edges at w

-- the edges of the list from x on are visited, and x - 1 is the next
pub record Sweep (net : List ℕ) (m nodes : ℕ) (pot : List ℕ) (trail trail' : Trail) (w side x : ℕ) : Type 0 where
  pub swept : Swept net m nodes pot trail trail' w (ListedFrom net (2 * nodes - 2) side w x)
  pub rest : Unlisted net m (2 * nodes - 2) side w x

-- the next edge is an edge, and what stands for it in the list is small
pub record Follows (net : List ℕ) (m base side w x : ℕ) (list : List ℕ) : Type 0 where
  pub edge : x - 1 < m
  pub place : (base ≤ x - 1) × (81 + (x - 1 - base) < length list)
  pub there : end_of net side (x - 1) ≡ w
  pub next : Last net base side (end_of net side (x - 1)) (x - 1) (at list (81 + (x - 1 - base)))
  pub small : at list (81 + (x - 1 - base)) < 4000
  pub less : at list (81 + (x - 1 - base)) < x

module _ {net : List ℕ} {m nodes : ℕ} {pot : List ℕ} {trail : Trail} {w side : ℕ} {list : List ℕ}
    (S : Search net m nodes pot trail) (sc : Scans nodes trail w) (I : Index net m (2 * nodes - 2) side list) where
  pub sweep_sizes : (0 < nodes) × (nodes ≤ 81) × (w < length list) × (at list w ≤ 4000)
  sweep_sizes =
      let N = S.network in
      (N.some, N.few, omega (arith, N.few, sc.inside, I.long), omega (arith, (I.first w (omega (arith, N.few, sc.inside))).below, N.rules))

  pub sweep_none : Sweep net m nodes pot trail trail w side (at list w)
  sweep_none =
      let f = I.first w (omega (arith, S.network.few, sc.inside)) in
      record { swept = swept_none S (λ e le q. f.none e q.0 q.1 le q.2); rest = record { below = f.below; hit = f.hit } }

module _ {net : List ℕ} {m nodes : ℕ} {pot : List ℕ} {trail trail₁ : Trail} {w side x : ℕ} {list : List ℕ}
    (sc : Scans nodes trail w) (I : Index net m (2 * nodes - 2) side list)
    (A : Sweep net m nodes pot trail trail₁ w side x) (p : 0 < x) where
  T : Search net m nodes pot trail₁
  T = A.swept.onward.search

  pub follows : Follows net m (2 * nodes - 2) side w x list
  follows =
      let N = T.network in
      let h = A.rest.hit p in
      let e : x - 1 < m = omega (arith, A.rest.below) in
      let n = I.next (x - 1) (omega arith) e in
      record {
        edge = e;
        place = omega (arith, I.long);
        there = h.1;
        next = n;
        small = omega (arith, n.below, N.rules);
        less = omega (arith, n.below);
      }

  sweep_more : {trail₂ : Trail} → Onward net m nodes pot trail₁ trail₂
      × Relaxed net pot trail₂.dist w (x - 1)
      → Sweep net m nodes pot trail trail₂ w side (at list (81 + (x - 1 - (2 * nodes - 2))))
  sweep_more h =
      record {
        swept = list_more sc A.swept h.0 h.1 p follows.next follows.there;
        rest = list_next A.rest p follows.next;
      }

  -- by head
  module _ (one : side ≡ 1) where
    head_w : head_of net (x - 1) ≡ w
    head_w = ap (λ k. end_of net k (x - 1)) (sym one) ∙ follows.there

    pub head_asks : Step net pot (x - 1) (tail_of net (x - 1)) w trail₁.distance × (trail₁.distance < at trail₁.dist (tail_of net (x - 1)) → trail₁.reached < 81)
    head_asks = (
      step T w (scans_still sc A.swept) (tail_of net (x - 1)) (x - 1) follows.edge refl head_w,
      offer_room T (tail_of net (x - 1)) (T.network.tails (x - 1) follows.edge),
    )

    pub head_more : {trail₂ : Trail}
        → Offered trail₁ trail₂ (tail_of net (x - 1)) (step_to net pot (x - 1) (tail_of net (x - 1)) w trail₁.distance) (x - 1)
        → Sweep net m nodes pot trail trail₂ w side (at list (81 + (x - 1 - (2 * nodes - 2))))
    head_more O = sweep_more (visit_into T w (scans_still sc A.swept) (tail_of net (x - 1)) (x - 1) follows.edge refl head_w O)

  -- by tail
  module _ (zero : side ≡ 0) where
    pub tail_asks : (4 * (x - 1) + 3 < length net) × (head_of net (x - 1) < 81) × (trail₁.distance < at trail₁.dist (head_of net (x - 1)) → trail₁.reached < 81)
    tail_asks =
        let N = T.network in
        let h = N.heads (x - 1) follows.edge in
        (omega (arith, N.size, follows.edge), omega (arith, h, N.few), offer_room T (head_of net (x - 1)) h)

    pub tail_more : {trail₂ : Trail}
        → Backed net trail₁ trail₂ (x - 1)
        → Sweep net m nodes pot trail trail₂ w side (at list (81 + (x - 1 - (2 * nodes - 2))))
    tail_more B =
        sweep_more (visit_back T w (scans_still sc A.swept) (x - 1) follows.edge
        (sym (end_tail net (x - 1)) ∙ ap (λ k. end_of net k (x - 1)) (sym zero) ∙ follows.there) B)

-- at the end of a list all its edges are visited
pub sweep_done : {net : List ℕ} {m nodes : ℕ} {pot : List ℕ} {trail trail' : Trail} {w side x : ℕ}
    → Sweep net m nodes pot trail trail' w side x → x ≤ 0
    → Swept net m nodes pot trail trail' w (Listed net (2 * nodes - 2) side w)
sweep_done A z = record { onward = A.swept.onward; relaxed = λ e le q. A.swept.relaxed e le (q.0, omega arith, q.1) }

-- one node more is scanned
pub record Scanned (net : List ℕ) (m nodes : ℕ) (pot : List ℕ) (trail trail' : Trail) : Type 0 where
  pub search : Search net m nodes pot trail'
  pub grew : trail.reached ≤ trail'.reached
  pub orders : (k : ℕ) → k < trail.reached → at trail'.order k ≡ at trail.order k
  pub same : (trail'.root ≡ trail.root) × (trail'.scanned ≡ trail.scanned + 1) × (trail'.distance ≡ trail.distance)

pub next_scans : {net : List ℕ} {m nodes : ℕ} {pot : List ℕ} {trail : Trail} → Search net m nodes pot trail → trail.scanned < trail.reached
    → Scans nodes trail (at trail.order trail.scanned)
next_scans S lt = let q = S.queue _ lt in record { inside = q.0; stamped = q.1 }

-- the three sweeps of a scan
pub scanned : {net : List ℕ} {m nodes : ℕ} {pot : List ℕ} {trail trail₁ trail₂ trail₃ : Trail} {w : ℕ} → Search net m nodes pot trail
    → trail.scanned < trail.reached → w ≡ at trail.order trail.scanned
    → Swept net m nodes pot trail trail₁ w (EdgesBelow (2 * nodes - 2))
    → Swept net m nodes pot trail₁ trail₂ w (Listed net (2 * nodes - 2) 1 w)
    → Swept net m nodes pot trail₂ trail₃ w (Listed net (2 * nodes - 2) 0 w)
    → Scanned net m nodes pot trail (record trail₃ { scanned = trail₃.scanned + 1 })
scanned {net} {m} {nodes} {pot} {trail} {trail₃ = trail₃} {w} S lt q one two three =
    let sc : Scans nodes trail w = rw q (next_scans S lt) in
    let heads = Listed net (2 * nodes - 2) 1 w in
    let both = swept_more sc one {Q = λ e. EdgesBelow (2 * nodes - 2) e ⊎ heads e} two.onward
    (λ e le q old. ⊎_elim old (two.relaxed e le) q) in
    let all = swept_more sc both {Q = λ e. e < m} three.onward
    (λ e le q old. scan_all S.network pot trail₃.dist w e (λ p. old (inl p)) (λ p. old (inr p)) (three.relaxed e le)) in
    let at_w : at trail₃.order trail₃.scanned ≡ w = ap (at trail₃.order) all.onward.same.1 ∙ all.onward.orders trail.scanned lt ∙ sym q in
    record {
      search = search_next all.onward.search (omega (arith, all.onward.grew, all.onward.same.1)) (λ e le. rw at_w (all.relaxed e le le));
      grew = all.onward.grew;
      orders = all.onward.orders;
      same = (all.onward.same.0, omega (arith, all.onward.same.1), all.onward.same.2);
    }
