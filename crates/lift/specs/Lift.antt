-- Lifting a potential. Each node that is raised is as far above the tail of the demand as any potential has it at least, so where the head of the demand would
-- have to rise too, no potential meets it; and the edges whose demands fail so far lead to nodes in the queue. Rests on network's Stored, Index and Grow.
use Rattle.std.specs.Prelude.{ℕ, ◌+◌, ◌*◌, ◌-◌, ◌≤◌, ◌<◌, ◌≡◌, refl, List, [], ◌∷◌, ◌++◌, ◌⊎◌, Result, Ok, Err, length, set}
use Rattle.std.proofs.Common.{sym, ap, ◌∙◌, ⊎_elim, inl, inr, arith, eq-or-lt_of_le, length-append, length-set, get_or-set_same, get_or-set_other}
use Rattle.std.proofs.Math.ListN.{get_or-append}
use Rattle.std.proofs.Math.Seq.{get_or-append_seam}
use Rattle.std.proofs.Math.Logic.{by_cases}
use Rattle.std.proofs.Math.Decide.{ℕ_discrete, dec_lt}
use Rattle.network.specs.Lists.{set_more}
use Rattle.network.specs.Network.{Meets}
use Rattle.network.specs.Stored.{at, tail_of, head_of, cost_of, stored, Demand, Network, Potential}
use Rattle.network.specs.Index.{end_of, Last, box_edge, Listed, Unlisted}
use Rattle.network.specs.Grow.{Impossible}
use Rattle.lift.specs.declared.Unmet.{Unmet}
use Rattle.lift.specs.declared.Unmet.TheVariants.{Ring, GivenUp}

-- how a step of a lift ends
abbrev pub Ends : Type 0
Ends = Result (Unit {0}) Unmet

-- a step has one end
ok_not_err : {A : Type 0} {r : Ends} {e : Unmet} → r ≡ Ok tt → r ≡ Err e → A
ok_not_err p q = absurd cc

ring_not_given_up : {A : Type 0} {r : Ends} → r ≡ Err Ring → r ≡ Err GivenUp → A
ring_not_given_up p q = absurd cc

-- ---- what the functions promise

-- edge e, whose head is v, is visited: its demand holds, its tail is raised and put into the queue, its tail is b, or it is given up
pub data Visited (net pot pot' queue queue' : List ℕ) (e v b : ℕ) (r : Ends) : Type 0 where
  met : r ≡ Ok tt → pot' ≡ pot → queue' ≡ queue → at pot v + 1000000 ≤ at pot (tail_of net e) + cost_of net e → Visited net pot pot' queue queue' e v b r
  raised : r ≡ Ok tt → pot' ≡ set pot (tail_of net e) (at pot v + 1000000 - cost_of net e) → queue' ≡ queue ++ tail_of net e ∷ [] → (tail_of net e ≡ b → ⊥)
      → at pot (tail_of net e) + cost_of net e < at pot v + 1000000 → at pot v + 1000000 ≤ 4000000 + cost_of net e → Visited net pot pot' queue queue' e v b r
  ring : r ≡ Err Ring → tail_of net e ≡ b → at pot (tail_of net e) + cost_of net e < at pot v + 1000000 → Visited net pot pot' queue queue' e v b r
  given_up : r ≡ Err GivenUp → Visited net pot pot' queue queue' e v b r

-- the nodes in the queue are nodes, and none is too high
pub record Ready (nodes : ℕ) (pot queue : List ℕ) : Type 0 where
  pub long : length pot ≡ 81
  pub small : (v : ℕ) → v < nodes → at pot v ≤ 4000000
  pub queued : (k : ℕ) → k < length queue → at queue k < nodes

abbrev pub MeetsAll : List ℕ → ℕ → (ℕ → ℕ) → Type 0
MeetsAll net m q = (e : ℕ) → e < m → Meets (stored 0 0 net) q e

-- the potential `old` is lifted to pot, with node a raised to `top` first: each node that is raised is as far above a as every potential has it
pub record Lifting (net : List ℕ) (m nodes : ℕ) (old : List ℕ) (a b top : ℕ) (pot : List ℕ) : Type 0 where
  pub feasible : (e : ℕ) → e < m → Demand net old e
  pub above : (v : ℕ) → v < nodes → at old v ≤ at pot v
  pub fixed : at pot b ≡ at old b
  pub first : top ≤ at pot a
  pub forced : (v : ℕ) → v < nodes → (at pot v ≡ at old v) ⊎ ((q : ℕ → ℕ) → MeetsAll net m q → q a + at pot v ≤ q v + top)

-- the demand of edge e holds, or its head waits in the queue from s on, or it is one of C, which are still to be visited
pub data Edge (net pot queue : List ℕ) (s : ℕ) (C : ℕ → Type 0) (e : ℕ) : Type 0 where
  holds : Demand net pot e → Edge net pot queue s C e
  waits : (k : ℕ) → s ≤ k → k < length queue → at queue k ≡ head_of net e → Edge net pot queue s C e
  comes : C e → Edge net pot queue s C e

abbrev pub AllEdges : List ℕ → ℕ → (pot queue : List ℕ) → ℕ → (ℕ → Type 0) → Type 0
AllEdges net m pot queue s C = (e : ℕ) → e < m → Edge net pot queue s C e

-- the edges whose head is v; none
abbrev pub AtNode : List ℕ → ℕ → ℕ → Type 0
AtNode net v e = head_of net e ≡ v

abbrev pub NoEdge : ℕ → Type 0
NoEdge e = ⊥

-- no potential has b as low against a as `old` and top do
abbrev pub Blocked : List ℕ → ℕ → List ℕ → (a b top : ℕ) → Type 0
Blocked net m old a b top = (q : ℕ → ℕ) → MeetsAll net m q → q a + at old b < q b + top

-- edges are visited, after which C' are left of C
pub record Passes (net : List ℕ) (m nodes b : ℕ) (pot queue pot' queue' : List ℕ) (r : Ends) (C C' : ℕ → Type 0) : Type 0 where
  pub ready : r ≡ Ok tt → Ready nodes pot' queue' × (length queue ≤ length queue')
  pub lifts : r ≡ Ok tt → (old : List ℕ) (a top : ℕ) → Lifting net m nodes old a b top pot → Lifting net m nodes old a b top pot'
  pub edges : r ≡ Ok tt → (s : ℕ) → s ≤ length queue → AllEdges net m pot queue s C → AllEdges net m pot' queue' s C'
  pub blocks : r ≡ Err Ring → (old : List ℕ) (a top : ℕ) → Lifting net m nodes old a b top pot → Blocked net m old a b top

-- all that follows from the first node in the queue is raised
pub record Spread (net : List ℕ) (m nodes b : ℕ) (pot queue pot' : List ℕ) (r : Ends) : Type 0 where
  pub long : r ≡ Ok tt → length pot' ≡ 81
  pub lifts : r ≡ Ok tt → (old : List ℕ) (a top : ℕ) → Lifting net m nodes old a b top pot → Lifting net m nodes old a b top pot'
  pub demands : r ≡ Ok tt → AllEdges net m pot queue 0 NoEdge → (e : ℕ) → e < m → Demand net pot' e
  pub blocks : r ≡ Err Ring → (old : List ℕ) (a top : ℕ) → Lifting net m nodes old a b top pot → Blocked net m old a b top

-- all nodes are lowered by the potential of the origin
pub record Shifted (pot pot' : List ℕ) (nodes : ℕ) : Type 0 where
  pub long : length pot' ≡ length pot
  pub lowered : (v : ℕ) → v < nodes → at pot' v + at pot 0 ≡ at pot v

-- the demand holds, beside those of the edges, or Ring: no potential meets it, or GivenUp: it was given up
pub record Lifts (net : List ℕ) (m nodes : ℕ) (pot pot' : List ℕ) (a b c : ℕ) (r : Ends) : Type 0 where
  pub long : r ≡ Ok tt → length pot' ≡ 81
  pub origin : r ≡ Ok tt → at pot' 0 ≡ 0
  pub feasible : r ≡ Ok tt → (e : ℕ) → e < m → Demand net pot' e
  pub held : r ≡ Ok tt → at pot' b + 1000000 ≤ at pot' a + c
  pub kept : (r ≡ Ok tt → ⊥) → pot' ≡ pot
  pub impossible : r ≡ Err Ring → Impossible net m a b c

-- ---- a visit

module _ {net : List ℕ} {m nodes : ℕ} (N : Network net m nodes) {pot queue : List ℕ} (R : Ready nodes pot queue) {e v : ℕ} (le : e < m) (hv : head_of net e ≡ v) (lv : v < nodes) where
  abbrev u : ℕ
  u = tail_of net e

  abbrev y : ℕ
  y = at pot v + 1000000 - cost_of net e

  here : at (set pot u y) u ≡ y
  here = get_or-set_same pot u y 0 (omega (arith, N.tails e le, N.few, R.long))

  there : (w : ℕ) → (w ≡ u → ⊥) → at (set pot u y) w ≡ at pot w
  there w n = get_or-set_other pot u w y 0 n

  module _ (x : at pot u + cost_of net e < at pot v + 1000000) where
    module _ {old : List ℕ} {a b top : ℕ} (L : Lifting net m nodes old a b top pot) where
      -- the head of an edge whose demand fails was raised
      head_forced : (q : ℕ → ℕ) → MeetsAll net m q → q a + at pot v ≤ q v + top
      head_forced q h = ⊎_elim
          (λ (same : at pot v ≡ at old v). absurd (omega (arith, x, same, rw hv at (L.feasible e le), L.above u (N.tails e le))))
          (λ (f : (q : ℕ → ℕ) → MeetsAll net m q → q a + at pot v ≤ q v + top). f q h)
          (L.forced v lv)

      -- its tail is b
      tail_blocked : u ≡ b → Blocked net m old a b top
      tail_blocked same q h = omega (arith, x, ap (at pot) same, L.fixed, head_forced q h, rw hv at (h e le), ap q same)

      -- its tail is raised
      tail_lifted : (u ≡ b → ⊥) → Lifting net m nodes old a b top (set pot u y)
      tail_lifted other =
          record {
            feasible = L.feasible;
            above = λ w lw. by_cases (ℕ_discrete w u)
                (λ s. rw (s, here) (omega (arith, x, L.above u (N.tails e le))))
                (λ n. rw (there w n) (L.above w lw));
            fixed = there b (λ s. other (sym s)) ∙ L.fixed;
            first = by_cases (ℕ_discrete a u)
                (λ s. rw (s, here) (omega (arith, x, L.first, ap (at pot) s)))
                (λ n. rw (there a n) L.first);
            forced = λ w lw. by_cases (ℕ_discrete w u)
                (λ s. inr (λ q h. rw (s, here) (omega (arith, x, head_forced q h, rw hv at (h e le)))))
                (λ n. rw (there w n) (L.forced w lw));
          }

    -- the tail waits in the queue
    tail_ready : at pot v + 1000000 ≤ 4000000 + cost_of net e → Ready nodes (set pot u y) (queue ++ u ∷ [])
    tail_ready high =
        record {
          long = simp length-set R.long;
          small = λ w lw. by_cases (ℕ_discrete w u)
              (λ s. rw (s, here) (omega (arith, high)))
              (λ n. rw (there w n) (R.small w lw));
          queued = λ k lk. by_cases (ℕ_discrete k (length queue))
              (λ s. rw (s, get_or-append_seam queue u [] 0) (N.tails e le))
              (λ n.
              let l : k < length queue = omega (arith, longer, lk, n) in
              rw (get_or-append queue (u ∷ []) 0 k l) (R.queued k l));
        }
      where
        longer : length (queue ++ u ∷ []) ≡ length queue + 1
        longer = length-append queue (u ∷ [])

    module _ {C C' : ℕ → Type 0} (cover : (f : ℕ) → f < m → C f → (f ≡ e) ⊎ C' f) (s : ℕ) (ls : s ≤ length queue) where
      -- an edge into it waits with it, and any other has its demand as before or better
      rest_holds : (f : ℕ) → f < m → (head_of net f ≡ u → ⊥) → Demand net pot f → Demand net (set pot u y) f
      rest_holds f lf n d =
          by_cases (ℕ_discrete (tail_of net f) u)
          (λ s. rw (there (head_of net f) n) (omega (arith, d, x, ap (at (set pot u y)) s, here, ap (at pot) s)))
          (λ o. rw (there (head_of net f) n, there (tail_of net f) o) d)

      longer : length (queue ++ u ∷ []) ≡ length queue + 1
      longer = length-append queue (u ∷ [])

      by_head : (f : ℕ) → ((head_of net f ≡ u → ⊥) → Edge net (set pot u y) (queue ++ u ∷ []) s C' f) → Edge net (set pot u y) (queue ++ u ∷ []) s C' f
      by_head f other =
          by_cases (ℕ_discrete (head_of net f) u)
          (λ q. waits (length queue) ls (omega (arith, longer)) (get_or-append_seam queue u [] 0 ∙ sym q))
          other

      tail_edges : AllEdges net m pot queue s C → AllEdges net m (set pot u y) (queue ++ u ∷ []) s C'
      tail_edges E f lf = go (E f lf)
        where
          go : Edge net pot queue s C f → Edge net (set pot u y) (queue ++ u ∷ []) s C' f
          go (holds d) = by_head f (λ n. holds (rest_holds f lf n d))
          go (waits k lk kt q) = waits k lk (omega (arith, kt, longer)) (get_or-append queue (u ∷ []) 0 k kt ∙ q)
          go (comes c) = ⊎_elim
              (λ (z : f ≡ e). by_head f (λ n. holds (rw (z, there (head_of net e) (λ w. n (ap (head_of net) z ∙ w)), here, hv) (omega (arith, x)))))
              (λ (c' : C' f). comes c')
              (cover f lf c)

  pub visit_passes : {pot' queue' : List ℕ} {b : ℕ} {r : Ends} {C C' : ℕ → Type 0} → Visited net pot pot' queue queue' e v b r → ((f : ℕ) → f < m → C f → (f ≡ e) ⊎ C' f)
      → Passes net m nodes b pot queue pot' queue' r C C'
  visit_passes {C = C} {C' = C'} (met z p q d) cover = record {
    ready = λ l. (rw (p, q) R, rw q (omega arith));
    lifts = λ l old a top L. rw p L;
    edges = λ l s ls E f lf. rw (p, q) (go s f lf (E f lf));
    blocks = λ w. ok_not_err z w;
  }
    where
      go : (s f : ℕ) → f < m → Edge net pot queue s C f → Edge net pot queue s C' f
      go s f lf (holds d') = holds d'
      go s f lf (waits k lk kt q') = waits k lk kt q'
      go s f lf (comes c) = ⊎_elim (λ (z' : f ≡ e). holds (rw (z', hv) d)) (λ (c' : C' f). comes c') (cover f lf c)
  visit_passes (raised z p q other x high) cover = record {
    ready = λ l. (rw (p, q) (tail_ready x high), rw q (omega (arith, length-append queue (u ∷ []))));
    lifts = λ l old a top L. rw p (tail_lifted x L other);
    edges = λ l s ls E. rw (p, q) (tail_edges x cover s ls E);
    blocks = λ w. ok_not_err z w;
  }
  visit_passes (ring z same x) cover = record {
    ready = λ l. ok_not_err l z;
    lifts = λ l. ok_not_err l z;
    edges = λ l. ok_not_err l z;
    blocks = λ w old a top L. tail_blocked x L same;
  }
  visit_passes (given_up z) cover = record {
    ready = λ l. ok_not_err l z;
    lifts = λ l. ok_not_err l z;
    edges = λ l. ok_not_err l z;
    blocks = λ w. ring_not_given_up w z;
  }

-- ---- several visits

pub passes_none : {net : List ℕ} {m nodes b : ℕ} {pot queue : List ℕ} {C C' : ℕ → Type 0} → Ready nodes pot queue → ((f : ℕ) → f < m → C f → C' f)
    → Passes net m nodes b pot queue pot queue (Ok tt) C C'
passes_none {net} {m} {pot = pot} {queue = queue} {C = C} {C' = C'} R cover = record {
  ready = λ l. (R, omega arith);
  lifts = λ l old a top L. L;
  edges = λ l s ls E f lf. go s f lf (E f lf);
  blocks = λ w. ok_not_err refl w;
}
  where
    go : (s f : ℕ) → f < m → Edge net pot queue s C f → Edge net pot queue s C' f
    go s f lf (holds d) = holds d
    go s f lf (waits k lk kt q) = waits k lk kt q
    go s f lf (comes c) = comes (cover f lf c)

pub passes_then : {net : List ℕ} {m nodes b : ℕ} {pot queue pot₁ queue₁ pot₂ queue₂ : List ℕ} {r : Ends} {C C₁ C₂ : ℕ → Type 0}
    → Passes net m nodes b pot queue pot₁ queue₁ (Ok tt) C C₁ → Passes net m nodes b pot₁ queue₁ pot₂ queue₂ r C₁ C₂
    → Passes net m nodes b pot queue pot₂ queue₂ r C C₂
passes_then P Q = record {
  ready = λ w. ((Q.ready w).0, omega (arith, (P.ready refl).1, (Q.ready w).1));
  lifts = λ w old a top L. Q.lifts w old a top (P.lifts refl old a top L);
  edges = λ w s ls E. Q.edges w s (omega (arith, ls, (P.ready refl).1)) (P.edges refl s ls E);
  blocks = λ w old a top L. Q.blocks w old a top (P.lifts refl old a top L);
}

-- an error leaves whatever edges
pub passes_ends : {net : List ℕ} {m nodes b : ℕ} {pot queue pot' queue' : List ℕ} {e : Unmet} {C C₁ C₂ : ℕ → Type 0}
    → Passes net m nodes b pot queue pot' queue' (Err e) C C₁ → Passes net m nodes b pot queue pot' queue' (Err e) C C₂
passes_ends P = record {
  ready = λ l. ok_not_err l refl;
  lifts = λ l. ok_not_err l refl;
  edges = λ l. ok_not_err l refl;
  blocks = P.blocks;
}

-- ---- the edges of a node

-- of the edges into the origin, those from the box of u on
abbrev pub OriginFrom : List ℕ → ℕ → ℕ → Type 0
OriginFrom net u e = (head_of net e ≡ 0) × (2 * u - 2 ≤ e)

-- of the listed edges into v, those below x
abbrev pub ListedBelow : List ℕ → (base v x : ℕ) → ℕ → Type 0
ListedBelow net base v x e = Listed net base 1 v e × (e < x)

module _ {net : List ℕ} {m nodes : ℕ} (N : Network net m nodes) where
  module _ {u : ℕ} (p : 0 < u) (lu : u < nodes) where
    pub origin_edge : (2 * u - 2 < m) × (head_of net (2 * u - 2) ≡ 0)
    origin_edge = (omega (arith, N.links u lu p), (N.down u lu p).1)

    pub origin_next : (f : ℕ) → f < m → OriginFrom net u f → (f ≡ 2 * u - 2) ⊎ OriginFrom net (u + 1) f
    origin_next f lf h =
        ⊎_elim
        (λ (q : 2 * u - 2 ≡ f). inl (sym q))
        (λ (l : 2 * u - 2 < f). ⊎_elim
        (λ (q : 2 * u - 1 ≡ f). absurd (omega (arith, p, h.0, ap (head_of net) q, (N.up u lu p).1)))
        (λ (k : 2 * u - 1 < f). inr (h.0, omega (arith, k)))
        (eq-or-lt_of_le (omega (arith, l))))
        (eq-or-lt_of_le h.1)

  module _ {v : ℕ} (lv : v < nodes) (p : 0 < v) where
    pub box_head : (2 * v - 1 < m) × (head_of net (2 * v - 1) ≡ v)
    box_head = (omega (arith, N.links v lv p), (N.up v lv p).1)

    pub box_only : (f : ℕ) → f < m → AtNode net v f → (f ≡ 2 * v - 1) ⊎ Listed net (2 * nodes - 2) 1 v f
    box_only f lf h = by_cases (dec_lt f (2 * nodes - 2)) (λ l. inl (this l)) (λ n. inr (omega arith, h))
      where
        this : f < 2 * nodes - 2 → f ≡ 2 * v - 1
        this l =
            let x = box_edge N f l in
            let B = x.2 in
            ⊎_elim
            (λ (z : (head_of net f ≡ 0) × (tail_of net f ≡ x.0)). absurd (omega (arith, z.0, h, p)))
            (λ (z : (tail_of net f ≡ 0) × (head_of net f ≡ x.0)).
            by_cases (ℕ_discrete f (2 * v - 2))
            (λ q. absurd (omega (arith, h, p, ap (head_of net) q, (N.down v lv p).1)))
            (λ n. omega (arith, z.1, h, B.place, n)))
            B.ends

-- the list of v, edge by edge
module _ {net : List ℕ} {m base v : ℕ} where
  pub list_first : {x : ℕ} → Last net base 1 v m x → Unlisted net m base 1 v x × ((f : ℕ) → f < m → Listed net base 1 v f → ListedBelow net base v x f)
  list_first {x} l = (
    record { below = l.below; hit = l.hit },
    λ f lf h. by_cases (dec_lt f x) (λ b. (h, b)) (λ n. absurd (l.none f h.0 (omega arith) lf h.1)),
  )

  module _ (e : ℕ) (U : Unlisted net m base 1 v (e + 1)) where
    pub list_edge : (e < m) × (base ≤ e) × (head_of net e ≡ v)
    list_edge =
        let same : e + 1 - 1 ≡ e = omega arith in
        let h = U.hit (omega arith) in
        (omega (arith, U.below), omega (arith, h.0), rw same at h.1)

    pub list_step : {y : ℕ} → Last net base 1 (end_of net 1 e) e y
        → Unlisted net m base 1 v y × ((f : ℕ) → f < m → ListedBelow net base v (e + 1) f → (f ≡ e) ⊎ ListedBelow net base v y f)
    list_step {y} l =
        let here = list_edge in (
          record { below = omega (arith, here.0, l.below); hit = λ p. ((l.hit p).0, (l.hit p).1 ∙ here.2) },
          λ f lf h. by_cases (ℕ_discrete f e)
              (λ z. inl z)
              (λ n. inr (h.0, by_cases (dec_lt f y) (λ b. b) (λ o. absurd (l.none f h.0.0 (omega arith) (omega (arith, h.1, n)) (h.0.1 ∙ sym here.2))))),
        )

-- ---- the queue

-- the edges into the next node in the queue are still to be visited
pub edges_next : {net : List ℕ} {m : ℕ} {pot queue : List ℕ} {s : ℕ} → AllEdges net m pot queue s NoEdge → AllEdges net m pot queue (s + 1) (AtNode net (at queue s))
edges_next {net} {pot = pot} {queue = queue} {s = s} E f lf = go (E f lf)
  where
    go : Edge net pot queue s NoEdge f → Edge net pot queue (s + 1) (AtNode net (at queue s)) f
    go (holds d) = holds d
    go (waits k lk kt q) =
        ⊎_elim
        (λ (z : s ≡ k). comes (sym q ∙ ap (at queue) (sym z)))
        (λ (l : s < k). waits k (omega (arith, l)) kt q)
        (eq-or-lt_of_le lk)
    go (comes c) = absurd c

-- where none waits, all demands hold
pub edges_hold : {net : List ℕ} {m : ℕ} {pot queue : List ℕ} {s : ℕ} → length queue ≤ s → AllEdges net m pot queue s NoEdge → (e : ℕ) → e < m → Demand net pot e
edges_hold {net} {pot = pot} {queue = queue} {s = s} l E e le = go (E e le)
  where
    go : Edge net pot queue s NoEdge e → Demand net pot e
    go (holds d) = d
    go (waits k lk kt q) = absurd (omega (arith, l, lk, kt))
    go (comes c) = absurd c

-- the nodes in the queue below s are done
pub record Going (net : List ℕ) (m nodes b : ℕ) (pot queue pot' queue' : List ℕ) (s : ℕ) : Type 0 where
  pub ready : Ready nodes pot' queue'
  pub place : s ≤ length queue'
  pub lifts : (old : List ℕ) (a top : ℕ) → Lifting net m nodes old a b top pot → Lifting net m nodes old a b top pot'
  pub edges : AllEdges net m pot queue 0 NoEdge → AllEdges net m pot' queue' s NoEdge

pub going_start : {net : List ℕ} {m nodes b : ℕ} {pot queue : List ℕ} → Ready nodes pot queue → Going net m nodes b pot queue pot queue 0
going_start R = record { ready = R; place = omega arith; lifts = λ old a top L. L; edges = λ E. E }

module _ {net : List ℕ} {m nodes b : ℕ} {pot queue pot₁ queue₁ : List ℕ} {s : ℕ} (G : Going net m nodes b pot queue pot₁ queue₁ s) where
  module _ {pot₂ queue₂ : List ℕ} where
    pub going_next : s < length queue₁ → Passes net m nodes b pot₁ queue₁ pot₂ queue₂ (Ok tt) (AtNode net (at queue₁ s)) NoEdge → Going net m nodes b pot queue pot₂ queue₂ (s + 1)
    going_next l P = record {
      ready = (P.ready refl).0;
      place = omega (arith, l, (P.ready refl).1);
      lifts = λ old a top L. P.lifts refl old a top (G.lifts old a top L);
      edges = λ E. P.edges refl (s + 1) (omega (arith, l)) (edges_next (G.edges E));
    }

    pub going_ends : {e : Unmet} {C : ℕ → Type 0} → Passes net m nodes b pot₁ queue₁ pot₂ queue₂ (Err e) C NoEdge → Spread net m nodes b pot queue pot₂ (Err e)
    going_ends P = record {
      long = λ z. ok_not_err z refl;
      lifts = λ z. ok_not_err z refl;
      demands = λ z. ok_not_err z refl;
      blocks = λ z old a top L. P.blocks z old a top (G.lifts old a top L);
    }

  pub going_done : length queue₁ ≤ s → Spread net m nodes b pot queue pot₁ (Ok tt)
  going_done w = record {
    long = λ z. G.ready.long;
    lifts = λ z. G.lifts;
    demands = λ z E. edges_hold w (G.edges E);
    blocks = λ z. ok_not_err refl z;
  }

-- ---- the lift

module _ {net : List ℕ} {m nodes : ℕ} (N : Network net m nodes) {pot : List ℕ} (P : Potential net m pot) {a b c : ℕ} (la : a < nodes) (lb : b < nodes) (lc : c ≤ 2000000)
    (fails : at pot a + c < at pot b + 1000000) (apart : a ≡ b → ⊥) (bound : (v : ℕ) → v < nodes → at pot v ≤ 1000000) where
  abbrev top : ℕ
  top = at pot b + 1000000 - c

  first : at (set pot a top) a ≡ top
  first = get_or-set_same pot a top 0 (omega (arith, la, N.few, P.long))

  others : (v : ℕ) → (v ≡ a → ⊥) → at (set pot a top) v ≡ at pot v
  others v n = get_or-set_other pot a v top 0 n

  pub start_ready : Ready nodes (set pot a top) (a ∷ [])
  start_ready = record {
    long = simp length-set P.long;
    small = λ v lv. by_cases (ℕ_discrete v a) (λ s. rw (s, first) (omega (arith, bound b lb))) (λ n. rw (others v n) (omega (arith, bound v lv)));
    queued = λ k l.
        let z : k ≡ 0 = omega (arith, l) in
        rw z la;
  }

  start_lifting : Lifting net m nodes pot a b top (set pot a top)
  start_lifting = record {
    feasible = P.feasible;
    above = λ v lv. by_cases (ℕ_discrete v a) (λ s. rw (s, first) (omega (arith, fails))) (λ n. rw (others v n) (omega arith));
    fixed = others b (λ s. apart (sym s));
    first = rw first (omega arith);
    forced = λ v lv. by_cases (ℕ_discrete v a) (λ s. inr (λ q h. rw (s, first) (omega arith))) (λ n. inl (others v n));
  }

  start_edges : AllEdges net m (set pot a top) (a ∷ []) 0 NoEdge
  start_edges e le =
      by_cases (ℕ_discrete (head_of net e) a)
      (λ s. waits 0 (omega arith) (omega arith) (sym s))
      (λ n. holds (by_cases (ℕ_discrete (tail_of net e) a)
      (λ s. rw (others (head_of net e) n) (omega (arith, P.feasible e le, fails, ap (at (set pot a top)) s, first, ap (at pot) s)))
      (λ o. rw (others (head_of net e) n, others (tail_of net e) o) (P.feasible e le))))

  module _ {pot' : List ℕ} (S : Spread net m nodes b (set pot a top) (a ∷ []) pot' (Ok tt)) where
    spread_lifting : Lifting net m nodes pot a b top pot'
    spread_lifting = S.lifts refl pot a top start_lifting

    -- the box of a node keeps it above the origin
    pub spread_low : (v : ℕ) → v < nodes → at pot' 0 ≤ at pot' v
    spread_low v lv = by_cases (ℕ_discrete v 0)
        (λ z. rw z (omega arith))
        (λ n.
        let p : 0 < v = omega (arith, n) in
        let d = N.down v lv p in
        omega (arith, rw (d.0, d.1) at (S.demands refl start_edges (2 * v - 2) (omega (arith, N.links v lv p))), d.2))

    pub lift_held : {pot'' : List ℕ} → Shifted pot' pot'' nodes → Lifts net m nodes pot pot'' a b c (Ok tt)
    lift_held T = record {
      long = λ z. T.long ∙ S.long refl;
      origin = λ z. omega (arith, T.lowered 0 N.some);
      feasible = λ z e le. omega (arith, S.demands refl start_edges e le, T.lowered (head_of net e) (N.heads e le), T.lowered (tail_of net e) (N.tails e le));
      held = λ z. omega (arith, T.lowered a la, T.lowered b lb, spread_lifting.fixed, spread_lifting.first, lc);
      kept = λ n. absurd (n refl);
      impossible = λ z. ok_not_err refl z;
    }

  pub lift_ends : {pot' : List ℕ} {e : Unmet} → Spread net m nodes b (set pot a top) (a ∷ []) pot' (Err e) → Lifts net m nodes pot pot a b c (Err e)
  lift_ends S = record {
    long = λ w. ok_not_err w refl;
    origin = λ w. ok_not_err w refl;
    feasible = λ w. ok_not_err w refl;
    held = λ w. ok_not_err w refl;
    kept = λ n. refl;
    impossible = λ z p h. omega (arith, S.blocks z pot a top start_lifting p h, lc);
  }

pub lift_given : {net : List ℕ} {m nodes : ℕ} {pot : List ℕ} {a b c : ℕ} → Lifts net m nodes pot pot a b c (Err GivenUp)
lift_given = record {
  long = λ w. ok_not_err w refl;
  origin = λ w. ok_not_err w refl;
  feasible = λ w. ok_not_err w refl;
  held = λ w. ok_not_err w refl;
  kept = λ n. refl;
  impossible = λ w. ring_not_given_up w refl;
}

-- ---- lowering all nodes

-- the nodes below n are lowered, and the others are as they were
pub record Shifting (pot pot' : List ℕ) (n : ℕ) : Type 0 where
  pub long : length pot' ≡ length pot
  pub lowered : (v : ℕ) → v < n → at pot' v + at pot 0 ≡ at pot v
  pub others : (v : ℕ) → n ≤ v → at pot' v ≡ at pot v

pub shifting_start : (pot : List ℕ) → Shifting pot pot 0
shifting_start pot = record { long = refl; lowered = λ v l. absurd (omega arith); others = λ v l. refl }

pub shifting_more : {pot pot' : List ℕ} {n : ℕ} (x : ℕ) → Shifting pot pot' n → n < length pot → x + at pot 0 ≡ at pot n → Shifting pot (set pot' n x) (n + 1)
shifting_more {pot} {pot'} {n} x S l e = record {
  long = simp length-set S.long;
  lowered = set_more (λ v y. y + at pot 0 ≡ at pot v) pot' n x (omega (arith, S.long, l)) S.lowered e;
  others = λ v lv. get_or-set_other pot' n v x 0 (λ q. omega (arith, q, lv)) ∙ S.others v (omega (arith, lv));
}

pub shifting_done : {pot pot' : List ℕ} {n nodes : ℕ} → Shifting pot pot' n → nodes ≤ n → Shifted pot pot' nodes
shifting_done S l = record { long = S.long; lowered = λ v lv. S.lowered v (omega (arith, l, lv)) }

-- where the origin is at 0
pub shifted_none : (pot : List ℕ) (nodes : ℕ) → at pot 0 ≡ 0 → Shifted pot pot nodes
shifted_none pot nodes z = record { long = refl; lowered = λ v l. omega (arith, z) }
