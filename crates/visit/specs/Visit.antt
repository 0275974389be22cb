-- Visiting an edge at the node w that is scanned, or the two box edges between w and another node.
use Rattle.std.specs.Prelude.{ℕ, ◌+◌, ◌*◌, ◌-◌, ◌≤◌, ◌<◌, ◌≡◌, refl, List, length}
use Rattle.std.proofs.Common.{sym, ap, ◌∙◌, arith, get_or-set_other}
use Rattle.std.proofs.Math.Logic.{by_cases}
use Rattle.std.proofs.Math.Decide.{dec_lt, dec_le}
use Rattle.network.specs.Stored.{at, tail_of, head_of, cost_of, flow_of, pot_bound}
use Rattle.network.specs.Lists.{by_zero}
use Rattle.visit.specs.declared.Trail.{Trail}
use Rattle.visit.specs.Search.{lowered, joined, Into, Relaxed, Offer, Search, Fell, fell_none, fell_more, reached_more, search_lower, lower_fell, lower_here, search_join, join_fell}

-- edge e from v to w can be stepped over, where w is at distance d: it has no negative slack, and the numbers are small
pub record Step (net pot : List ℕ) (e v w d : ℕ) : Type 0 where
  pub size : 4 * e + 3 < length net
  pub ends : (v < 81) × (w < 81)
  pub small : (at pot v ≤ 1000000) × (at pot w ≤ 1000000) × (cost_of net e ≤ 2000000) × (d ≤ 2000000)
  pub slack : at pot w + 1000000 ≤ at pot v + cost_of net e

-- the distance of v over it
abbrev pub step_to : List ℕ → List ℕ → ℕ → ℕ → ℕ → ℕ → ℕ
step_to net pot e v w d = d + (at pot v + cost_of net e) - (at pot w + 1000000)

-- v is offered the distance x by edge e: it is kept, or falls, or falls to the search's distance, and v is reached
pub record Offered (trail trail' : Trail) (v x e : ℕ) : Type 0 where
  pub kept : at trail.dist v ≤ x → trail' ≡ trail
  pub lower : x < at trail.dist v → trail.distance < x → trail' ≡ lowered trail v e x
  pub join : x < at trail.dist v → x ≤ trail.distance → trail' ≡ joined (lowered trail v e x) v

-- the head of edge e is offered the search's distance where it has flow
pub record Backed (net : List ℕ) (trail trail' : Trail) (e : ℕ) : Type 0 where
  pub flow : 0 < flow_of net e → Offered trail trail' (head_of net e) trail.distance e
  pub none : flow_of net e ≡ 0 → trail' ≡ trail

-- v, if it is farther than the search's distance, is offered it by edge o where it has flow, else the distance over edge i
pub record Boxed (net pot : List ℕ) (trail trail' : Trail) (w v i o : ℕ) : Type 0 where
  pub near : at trail.dist v ≤ trail.distance → trail' ≡ trail
  pub flow : trail.distance < at trail.dist v → 0 < flow_of net o → Offered trail trail' v trail.distance o
  pub none : trail.distance < at trail.dist v → flow_of net o ≡ 0 → Offered trail trail' v (step_to net pot i v w trail.distance) i

-- a search goes on: distances fall, and more nodes are reached
pub record Onward (net : List ℕ) (m nodes : ℕ) (pot : List ℕ) (trail trail' : Trail) : Type 0 where
  pub search : Search net m nodes pot trail'
  pub fell : Fell trail.stamp trail.dist trail'.stamp trail'.dist trail.distance
  pub grew : trail.reached ≤ trail'.reached
  pub orders : (k : ℕ) → k < trail.reached → at trail'.order k ≡ at trail.order k
  pub same : (trail'.root ≡ trail.root) × (trail'.scanned ≡ trail.scanned) × (trail'.distance ≡ trail.distance)

pub onward_none : {net : List ℕ} {m nodes : ℕ} {pot : List ℕ} {trail : Trail} → Search net m nodes pot trail → Onward net m nodes pot trail trail
onward_none S = record { search = S; fell = fell_none; grew = omega arith; orders = λ k l. refl; same = (refl, refl, refl) }

-- w is the node that is scanned
pub record Scans (nodes : ℕ) (trail : Trail) (w : ℕ) : Type 0 where
  pub inside : w < nodes
  pub stamped : at trail.stamp w ≡ trail.scanned + 1

-- edge i leads from v to w, and edge o from w to v
pub record Pair (net : List ℕ) (m w v i o : ℕ) : Type 0 where
  pub edges : (i < m) × (o < m)
  pub inward : (tail_of net i ≡ v) × (head_of net i ≡ w)
  pub outward : (tail_of net o ≡ w) × (head_of net o ≡ v)

pub scans_on : {net : List ℕ} {m nodes : ℕ} {pot : List ℕ} {trail trail' : Trail} {w : ℕ} → Scans nodes trail w → Onward net m nodes pot trail trail' → Scans nodes trail' w
scans_on {w = w} S A = record { inside = S.inside; stamped = omega (arith, A.fell.stamps w (omega (arith, S.stamped)), S.stamped, A.same.1) }

module _ {net : List ℕ} {m nodes : ℕ} {pot : List ℕ} {trail : Trail} (S : Search net m nodes pot trail) where
  -- a node that can get nearer is not reached
  not_reached : (v x : ℕ) → v < nodes → trail.distance ≤ x → x < at trail.dist v → at trail.stamp v ≡ 0
  not_reached v x lv le l = by_zero (at trail.stamp v) (λ z. z) (λ p. absurd (omega (arith, S.near v lv p)))

  pub offer_room : (v : ℕ) → v < nodes → trail.distance < at trail.dist v → trail.reached < 81
  offer_room v lv l = omega (arith, reached_more S v lv (not_reached v trail.distance lv (omega arith) l), S.network.few)

  module _ {trail' : Trail} (v x e : ℕ) (lv : v < nodes) (le : trail.distance ≤ x) (o : Offer net m pot trail.stamp trail.dist v e x)
      (h : Offered trail trail' v x e) where
    pub offered : Onward net m nodes pot trail trail' × (at trail'.dist v ≤ x)
    offered =
        by_cases (dec_lt x (at trail.dist v))
        (λ l.
        let out = not_reached v x lv le l in
        by_cases (dec_le x trail.distance)
        (λ near.
        let k = h.join l near in
        let here = lower_here S v e x lv out l le o in
        let lower = search_lower S v e x lv out l le o in
        rw k (
          record {
            search = search_join lower v lv out (omega arith);
            fell = fell_more (lower_fell S v e x lv out l le o) (join_fell lower v lv out (omega arith));
            grew = omega arith;
            orders = λ k lk. get_or-set_other trail.order trail.reached k v 0 (omega arith);
            same = (refl, refl, refl);
          },
          omega arith,
        ))
        (λ far.
        let k = h.lower l (omega arith) in
        let here = lower_here S v e x lv out l le o in
        rw k
        (record { search = search_lower S v e x lv out l le o; fell = lower_fell S v e x lv out l le o; grew = omega arith; orders = λ k lk. refl; same = (refl, refl, refl) }, omega arith)))
        (λ n.
        let k = h.kept (omega arith) in
        rw k (onward_none S, omega arith))

  -- The edges at w.
  module _ (w : ℕ) (sc : Scans nodes trail w) where
    dist_w : at trail.dist w ≡ trail.distance
    dist_w = omega (arith, sc.stamped, S.near w sc.inside (omega (arith, sc.stamped)), S.waiting w sc.inside (omega (arith, sc.stamped)))

    -- its distance stays
    still_w : {trail' : Trail} → Onward net m nodes pot trail trail' → at trail'.dist w ≡ trail.distance
    still_w A = A.fell.stays w (omega (arith, dist_w)) ∙ dist_w

    -- an edge from w to w is relaxed
    loop_into : (dist' : List ℕ) (e : ℕ) → e < m → head_of net e ≡ w → tail_of net e ≡ w → Into net pot dist' e
    loop_into dist' e le h q = omega (arith, S.potential.feasible e le, ap (at dist') (h ∙ sym q))

    -- Edge e leads from v to w.
    module _ (v e : ℕ) (le : e < m) (q : tail_of net e ≡ v) (h : head_of net e ≡ w) where
      pub step : Step net pot e v w trail.distance
      step =
          let N = S.network in
          let lv : v < nodes = rw q at (N.tails e le) in
          record {
            size = omega (arith, N.size);
            ends = (omega (arith, N.few), omega (arith, N.few, sc.inside));
            small = (pot_bound net m nodes pot N S.potential v lv, pot_bound net m nodes pot N S.potential w sc.inside, N.costs e le, S.bound);
            slack = rw (q, h) at (S.potential.feasible e le);
          }

      into_offer : Offer net m pot trail.stamp trail.dist v e (step_to net pot e v w trail.distance)
      into_offer =
          record {
            edge = le;
            forth = λ _. (omega (arith, ap (at trail.stamp) h, sc.stamped), omega (arith, step.slack, ap (at pot) h, ap (at trail.dist) h, dist_w));
            back = λ n. absurd (n q);
          }

      -- what it leads to is no farther than over it
      into_relaxed : {trail' : Trail} → Onward net m nodes pot trail trail'
          → at trail'.dist v ≤ step_to net pot e v w trail.distance → Relaxed net pot trail'.dist w e
      into_relaxed {trail' = trail'} A l =
          record {
            into = λ _. omega (arith, l, step.slack, ap (at pot) h, ap (at trail'.dist) h, ap (at pot) q, ap (at trail'.dist) q, still_w A);
            back = λ z _. omega (arith, ap (at trail'.dist) h, ap (at trail'.dist) z);
          }

      pub visit_into : {trail' : Trail} → Offered trail trail' v (step_to net pot e v w trail.distance) e
          → Onward net m nodes pot trail trail' × Relaxed net pot trail'.dist w e
      visit_into O =
          let a = offered v (step_to net pot e v w trail.distance) e (rw q at (S.network.tails e le)) (omega (arith, step.slack)) into_offer O in
          (a.0, into_relaxed a.0 a.1)

    -- Edge e leads from w to v.
    module _ (v e : ℕ) (le : e < m) (q : tail_of net e ≡ w) (h : head_of net e ≡ v) where
      back_offer : 0 < flow_of net e → Offer net m pot trail.stamp trail.dist v e trail.distance
      back_offer pf =
          record {
            edge = le;
            forth = λ z.
                let same : head_of net e ≡ w = h ∙ sym z ∙ q in
                (omega (arith, ap (at trail.stamp) same, sc.stamped), omega (arith, ap (at trail.dist) same, dist_w, S.potential.tight e le pf, ap (at pot) z));
            back = λ _. (omega (arith, ap (at trail.stamp) q, sc.stamped), h, pf);
          }

      back_relaxed : {trail' : Trail} → Onward net m nodes pot trail trail'
          → (0 < flow_of net e → at trail'.dist v ≤ trail.distance) → Relaxed net pot trail'.dist w e
      back_relaxed {trail' = trail'} A l =
          record {
            into = λ z. loop_into trail'.dist e le z q;
            back = λ _ pf. omega (arith, l pf, ap (at trail'.dist) q, ap (at trail'.dist) h, still_w A);
          }

    pub visit_back : (e : ℕ) → e < m → tail_of net e ≡ w → {trail' : Trail} → Backed net trail trail' e
        → Onward net m nodes pot trail trail' × Relaxed net pot trail'.dist w e
    visit_back e le q B =
        by_zero (flow_of net e)
        (λ z.
        let k = B.none z in
        rw k (onward_none S, back_relaxed (head_of net e) e le q refl (onward_none S) (λ p. absurd (omega arith))))
        (λ p.
        let a = offered (head_of net e) trail.distance e (S.network.heads e le) (omega arith) (back_offer (head_of net e) e le q refl p) (B.flow p) in
        (a.0, back_relaxed (head_of net e) e le q refl a.0 (λ _. a.1)))

    -- both edges of a box, where v is at the search's distance at most, or farther
    module _ {v i o : ℕ} (P : Pair net m w v i o) where
      pub pair_step : Step net pot i v w trail.distance
      pair_step = step v i P.edges.0 P.inward.0 P.inward.1

      pair_near : {trail' : Trail} → Onward net m nodes pot trail trail' → at trail'.dist v ≤ trail.distance
          → Relaxed net pot trail'.dist w i × Relaxed net pot trail'.dist w o
      pair_near A l = (
        into_relaxed v i P.edges.0 P.inward.0 P.inward.1 A (omega (arith, pair_step.slack)),
        back_relaxed v o P.edges.1 P.outward.0 P.outward.1 A (λ _. l),
      )

      pub visit_pair : {trail' : Trail} → Boxed net pot trail trail' w v i o
          → Onward net m nodes pot trail trail' × (Relaxed net pot trail'.dist w i × Relaxed net pot trail'.dist w o)
      visit_pair B =
          by_cases (dec_lt trail.distance (at trail.dist v))
          (λ l. by_zero (flow_of net o)
          (λ z.
          let a = visit_into v i P.edges.0 P.inward.0 P.inward.1 (B.none l z) in
          (a.0, (a.1, back_relaxed v o P.edges.1 P.outward.0 P.outward.1 a.0 (λ p. absurd (omega arith)))))
          (λ p.
          let lv : v < nodes = rw P.outward.1 at (S.network.heads o P.edges.1) in
          let a = offered v trail.distance o lv (omega arith) (back_offer v o P.edges.1 P.outward.0 P.outward.1 p) (B.flow l p) in
          (a.0, pair_near a.0 a.1)))
          (λ n.
          let k = B.near (omega arith) in
          rw k (onward_none S, pair_near (onward_none S) (omega arith)))
