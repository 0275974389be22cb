-- The way from a node to the root, from link to link, and how much flow it has room for: an edge that is walked back gives up flow that it has.
use Rattle.std.specs.Prelude.{ℕ, zero, suc, ◌+◌, ◌-◌, ◌≤◌, ◌<◌, min, ◌≡◌, refl, List}
use Rattle.std.proofs.Common.{sym, ap, ◌∙◌, arith, below_more}
use Rattle.std.proofs.Math.Logic.{by_cases}
use Rattle.std.proofs.Math.Decide.{ℕ_discrete, dec_lt}
use Rattle.network.specs.Stored.{at, tail_of, head_of, flow_of, Network}
use Rattle.search.specs.Tree.{Link, Linked}
use Rattle.network.specs.Sum.{when_eq, when_is, when_eq_other}
use Rattle.edge.specs.Limit.{EdgePlace, edge_place}

-- r is the other end of edge e, seen from cur
pub record Across (net : List ℕ) (e cur r : ℕ) : Type 0 where
  pub forth : tail_of net e ≡ cur → r ≡ head_of net e
  pub back : (tail_of net e ≡ cur → ⊥) → r ≡ tail_of net e

-- edge e has room for f units from cur, and for r of f units
abbrev pub HasRoom : List ℕ → ℕ → ℕ → ℕ → Type 0
HasRoom net e cur f = (tail_of net e ≡ cur → ⊥) → f ≤ flow_of net e

pub record Bound (net : List ℕ) (e cur f r : ℕ) : Type 0 where
  pub forth : tail_of net e ≡ cur → r ≡ f
  pub back : (tail_of net e ≡ cur → ⊥) → r ≡ min f (flow_of net e)

-- the other end of cur's link
hop : List ℕ → List ℕ → ℕ → ℕ
hop net via cur =
    let t = tail_of net (at via cur) in
    when_eq t cur (head_of net (at via cur)) + (t - when_eq t cur t)

hop_across : (net via : List ℕ) (cur r : ℕ) → Across net (at via cur) cur r → hop net via cur ≡ r
unfolding hop
hop_across net via cur r A =
    let t = tail_of net (at via cur) in
    let h = head_of net (at via cur) in
    by_cases (ℕ_discrete t cur)
    (λ q. omega (arith, A.forth q, when_is t cur h q, when_is t cur t q))
    (λ q. omega (arith, A.back q, when_eq_other t cur h q, when_eq_other t cur t q))

-- the node after k links
pub hops : List ℕ → List ℕ → ℕ → ℕ → ℕ
hops net via start zero = start
hops net via start (suc k) = hop net via (hops net via start k)

-- k links lead from start to cur, and have room for f units
pub record Way (net via : List ℕ) (start f k cur : ℕ) : Type 0 where
  pub here : hops net via start k ≡ cur
  pub fits : (j : ℕ) → j < k → HasRoom net (at via (hops net via start j)) (hops net via start j) f

hops_more : (net via : List ℕ) (start k : ℕ) {cur : ℕ} (r : ℕ) → hops net via start k ≡ cur → Across net (at via cur) cur r → hops net via start (k + 1) ≡ r
unfolding hops
hops_more net via start k {cur} r q A =
    let one : k + 1 ≡ suc k = omega arith in
    rw one (ap (hop net via) q ∙ hop_across net via cur r A)

way_none : (net via : List ℕ) (start f : ℕ) → Way net via start f 0 start
unfolding hops
way_none net via start f = record { here = refl; fits = λ j l. absurd (omega arith) }

way_more : {net via : List ℕ} {start f k cur : ℕ} (f' r : ℕ) → Way net via start f k cur → Across net (at via cur) cur r → f' ≤ f → HasRoom net (at via cur) cur f'
    → Way net via start f' (k + 1) r
way_more {net} {via} {start} {f} {k} {cur} f' r W A le here =
    record {
      here = hops_more net via start k r W.here A;
      fits = below_more (λ j. HasRoom net (at via (hops net via start j)) (hops net via start j) f') k
          (λ j l q. omega (arith, W.fits j l q))
          (rw W.here here);
    }

-- ---- the walk that measures the way

-- cur is reached from start, by a way with room for f of want units
pub record Roaming (net : List ℕ) (nodes : ℕ) (stamp via : List ℕ) (start want f cur : ℕ) : Type 0 where
  pub inside : cur < nodes
  pub reached : 0 < at stamp cur
  pub some : 0 < f
  pub most : f ≤ want
  pub links : ℕ
  pub way : Way net via start f links cur

pub roaming_none : {net : List ℕ} {nodes : ℕ} {stamp via : List ℕ} {start want : ℕ} → start < nodes → 0 < at stamp start → 0 < want
    → Roaming net nodes stamp via start want want start
roaming_none {net} {via = via} {start = start} {want = want} l p w =
    record { inside = l; reached = p; some = w; most = omega arith; links = 0; way = way_none net via start want }

module _ {net : List ℕ} {m nodes : ℕ} {stamp via : List ℕ} {root start want f cur : ℕ} (N : Network net m nodes) (linked : Linked net m nodes stamp via root)
    (ne : cur ≡ root → ⊥) (R : Roaming net nodes stamp via start want f cur) where
  link : Link net m stamp cur (at via cur)
  link = linked cur R.inside ne R.reached

  pub roaming_place : EdgePlace net (at via cur)
  roaming_place = edge_place N (at via cur) link.edge

  pub roaming_more : {f' r : ℕ} → Bound net (at via cur) cur f f' → Across net (at via cur) cur r
      → Roaming net nodes stamp via start want f' r × (at stamp r < at stamp cur)
  roaming_more {f'} {r} B A = by_cases (ℕ_discrete (tail_of net (at via cur)) cur) forth back
    where
      next : r < nodes → 0 < at stamp r → 0 < f' → f' ≤ f → HasRoom net (at via cur) cur f' → Roaming net nodes stamp via start want f' r
      next l p s le fits =
          record { inside = l; reached = p; some = s; most = omega (arith, R.most); links = R.links + 1; way = way_more f' r R.way A le fits }

      forth : tail_of net (at via cur) ≡ cur → Roaming net nodes stamp via start want f' r × (at stamp r < at stamp cur)
      forth q =
          let l = link.forth q in
          let er = A.forth q in (
            next (rw er (N.heads (at via cur) link.edge)) (rw er l.0) (omega (arith, B.forth q, R.some)) (omega (arith, B.forth q)) (λ z. absurd (z q)),
            rw er l.1,
          )

      back : (tail_of net (at via cur) ≡ cur → ⊥) → Roaming net nodes stamp via start want f' r × (at stamp r < at stamp cur)
      back q =
          let l = link.back q in
          let er = A.back q in (
            next (rw er (N.tails (at via cur) link.edge)) (rw er l.0) (omega (arith, B.back q, R.some, l.3)) (omega (arith, B.back q)) (λ z. omega (arith, B.back q)),
            rw er l.1,
          )

-- the way from start to the root has room for f of want units
pub record Roomy (net via : List ℕ) (root start want f : ℕ) : Type 0 where
  pub some : 0 < f
  pub most : f ≤ want
  pub links : ℕ
  pub way : Way net via start f links root

pub roomy : {net : List ℕ} {nodes : ℕ} {stamp via : List ℕ} {root start want f cur : ℕ} → Roaming net nodes stamp via start want f cur → cur ≡ root
    → Roomy net via root start want f
roomy R q = record { some = R.some; most = R.most; links = R.links; way = rw q at R.way }

-- ---- the walk that goes the way

-- cur stands on a way to the root with room for f units
pub record Along (net via : List ℕ) (root f cur : ℕ) : Type 0 where
  pub start : ℕ
  pub links : ℕ
  pub way : Way net via start f links root
  pub done : ℕ
  pub left : done ≤ links
  pub here : hops net via start done ≡ cur

pub along_start : {net via : List ℕ} {root start want f : ℕ} → Roomy net via root start want f → Along net via root f start
unfolding hops
along_start {start = start} R = record { start = start; links = R.links; way = R.way; done = 0; left = omega arith; here = refl }

module _ {net via : List ℕ} {root f cur : ℕ} (A : Along net via root f cur) (ne : cur ≡ root → ⊥) where
  more : A.done < A.links
  more =
      by_cases (dec_lt A.done A.links) (λ l. l)
      (λ n. let all : A.done ≡ A.links = omega (arith, A.left) in absurd (ne (sym A.here ∙ ap (hops net via A.start) all ∙ A.way.here)))

  pub along_fits : HasRoom net (at via cur) cur f
  along_fits = rw A.here at (A.way.fits A.done more)

  pub along_more : {r : ℕ} → Across net (at via cur) cur r → Along net via root f r
  along_more {r} X =
      record {
        start = A.start;
        links = A.links;
        way = A.way;
        done = A.done + 1;
        left = omega (arith, more);
        here = hops_more net via A.start A.done r A.here X;
      }
