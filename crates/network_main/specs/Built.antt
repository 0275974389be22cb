-- A network of n events as it is built: the boxes, then the edges that keep each open at most its close, then the others, each admitted.
use Rattle.std.specs.Prelude.{ℕ, suc, ◌+◌, ◌*◌, ◌-◌, ◌≤◌, ◌<◌, ◌≡◌, refl, true, List, length, set, replicate}
use Rattle.std.proofs.Common.{◌∙◌, arith, below_none, below_more, length-set, get_or-set_same, get_or-set_other}
use Rattle.std.proofs.lemmas.List.{length-replicate}
use Rattle.network.specs.Lists.{zeros_at}
use Rattle.network.specs.Stored.{at}
use Rattle.network.specs.Edges.{EdgeIs, extends_edge, Boxes}
use Rattle.network.specs.Grow.{Flowless, Growing, boxes_growing}
use Rattle.admit.specs.Admit.{Admissible, Admits}
use Rattle.flow.specs.Solve.{Spans}

-- the bounds of the nodes from 1 on and below k
pub record Bounded (low high : List ℕ) (k : ℕ) : Type 0 where
  pub long_low : length low ≡ 81
  pub long_high : length high ≡ 81
  pub origin : at low 0 ≡ 0
  pub fits : (v : ℕ) → v < k → 0 < v → (at low v ≤ at high v) × (at high v ≤ 1000000)

pub bounded_none : (low high : List ℕ) → length low ≡ 81 → length high ≡ 81 → at low 0 ≡ 0 → Bounded low high 1
bounded_none low high a b z = record { long_low = a; long_high = b; origin = z; fits = λ v l p. absurd (omega arith) }

pub bounded_more : {low high : List ℕ} {k : ℕ} (x y : ℕ) → Bounded low high k → 0 < k → k < 81 → x ≤ y → y ≤ 1000000 → Bounded (set low k x) (set high k y) (k + 1)
bounded_more {low} {high} {k} x y B p l a b =
    record {
      long_low = simp length-set B.long_low;
      long_high = simp length-set B.long_high;
      origin = get_or-set_other low k 0 x 0 (λ q. omega arith) ∙ B.origin;
      fits = below_more (λ v. 0 < v → (at (set low k x) v ≤ at (set high k y) v) × (at (set high k y) v ≤ 1000000)) k
          (λ v lv pv. rw (get_or-set_other low k v x 0 (omega arith), get_or-set_other high k v y 0 (omega arith)) (B.fits v lv pv))
          (λ _. rw (get_or-set_same low k x 0 (omega (arith, B.long_low)), get_or-set_same high k y 0 (omega (arith, B.long_high))) (a, b));
    }

-- k edges are admitted after the boxes
pub record Built (net : List ℕ) (n k : ℕ) (pot tails heads : List ℕ) : Type 0 where
  pub growing : Growing net (4 * n + k) (2 * n + 1) pot tails heads
  pub size : length net ≡ 1824
  pub order : (i : ℕ) → i < k → i < n → EdgeIs net (4 * n + i) (n + suc i) (suc i) 1000000

pub built_start : {net low high : List ℕ} {n : ℕ} → n ≤ 40 → length net ≡ 1824 → Boxes net (2 * n + 1) (at low) (at high) → Bounded low high (2 * n + 1)
    → Built net n 0 low (replicate 400 0) (replicate 400 0)
built_start {net} {low} {high} {n} few size B D =
    let edges : 2 * (2 * n) ≡ 4 * n + 0 = omega arith in
    record {
      growing =
          rw edges at
          (boxes_growing B low (replicate 400 0) (replicate 400 0) (omega arith) (omega arith) (λ v p l. (D.fits v l p).1) D.long_low D.origin (λ v p l. (omega arith, (D.fits v l p).0))
          (omega (arith, length-replicate {A = ℕ} 400 0)) (λ i l. zeros_at 400 i) (omega (arith, length-replicate {A = ℕ} 400 0)) (λ i l. zeros_at 400 i));
      size = size;
      order = below_none _;
    }

-- one edge more; the first n are those of the order
pub built_more : {net net' : List ℕ} {n k : ℕ} {pot pot' tails tails' heads heads' : List ℕ} {a b c : ℕ} → Built net n k pot tails heads
    → Admits net net' (4 * n + k) (2 * n + 1) pot' tails' heads' a b c true → (k < n → (a ≡ n + suc k) × (b ≡ suc k) × (c ≡ 1000000)) → Built net' n (k + 1) pot' tails' heads'
built_more {net} {net'} {n} {k} T A first =
    let edges : 4 * n + (k + 1) ≡ 4 * n + k + 1 = omega arith in
    record {
      growing = rw edges (A.admitted refl);
      size = A.put.extends.long ∙ T.size;
      order = below_more (λ i. i < n → EdgeIs net' (4 * n + i) (n + suc i) (suc i) 1000000) k
          (λ i l ln. extends_edge A.put.extends (omega arith) (T.order i l ln))
          (λ ln. let f = first ln in rw (f.0, f.1, f.2) at A.put.edge);
    }

-- the ends and the biased cost of edge k; the first n are those of the order
pub record Ends (n k a b c : ℕ) : Type 0 where
  pub tail : a < 2 * n + 1
  pub head : b < 2 * n + 1
  pub cost : c ≤ 2000000
  pub order : k < n → (a ≡ n + suc k) × (b ≡ suc k) × (c ≡ 1000000)

-- what `admit` asks of it
pub ends_fit : {net pot tails heads : List ℕ} {n k a b c : ℕ} (m : ℕ) → (n ≤ 40) × (m ≤ 256) → k < n + m → Built net n k pot tails heads → Ends n k a b c
    → 81 + (n + m) ≤ length tails → 81 + (n + m) ≤ length heads → Growing net (4 * n + k) (2 * n + 1) pot tails heads × Admissible net (4 * n + k) (2 * n + 1) tails heads a b c
ends_fit m few below B E room_tails room_heads = (
  B.growing,
  record {
    size = omega (arith, few.0, few.1, B.size);
    room = omega (arith, few.0, few.1);
    by_tail = omega arith;
    by_head = omega arith;
    tail = E.tail;
    head = E.head;
    cost = E.cost;
  },
)

-- all edges: what `solve` asks
module _ {net : List ℕ} {n k : ℕ} {pot tails heads : List ℕ} (m : ℕ) (T : Built net n k pot tails heads) (all : k ≡ n + m) where
  pub built_flowless : Flowless net (5 * n + m) (2 * n + 1) pot
  built_flowless =
      let edges : 5 * n + m ≡ 4 * n + k = omega arith in
      rw edges T.growing.flowless

  pub built_spans : Spans net (5 * n + m) n
  built_spans = (
    λ i. 4 * n + (i - 1),
    record {
      edge = λ i p l. omega arith;
      from = λ i p l. (span i p l).tail;
      to = λ i p l. (span i p l).head;
      free = λ i p l. omega (arith, (span i p l).cost);
    },
  )
    where
      span : (i : ℕ) → 0 < i → i ≤ n → EdgeIs net (4 * n + (i - 1)) (n + i) i 1000000
      span i p l =
          let same : suc (i - 1) ≡ i = omega arith in
          rw same at (T.order (i - 1) (omega arith) (omega arith))
