-- Edges as they are stored, one after the other: a store of edge e leaves the edges before it. The box edges keep each node between two bounds.
-- Costs are stored with a bias of 1000000.
use Rattle.std.specs.Prelude.{ℕ, zero, suc, ◌+◌, ◌*◌, ◌-◌, ◌≤◌, ◌<◌, ◌≡◌, refl, List, length, set}
use Rattle.std.proofs.Common.{sym, ◌∙◌, subst, ⊎_elim, arith, eq-or-lt_of_le, below_more, length-set, get_or-set_same, get_or-set_other}
use Rattle.network.specs.Network.{Meets}
use Rattle.network.specs.Stored.{at, Beyond, tail_of, head_of, cost_of, flow_of, stored}

-- edge e leads from a to b at the biased cost c, and carries no flow
pub record EdgeIs (net : List ℕ) (e a b c : ℕ) : Type 0 where
  pub tail : tail_of net e ≡ a
  pub head : head_of net e ≡ b
  pub cost : cost_of net e ≡ c
  pub flow : flow_of net e ≡ 0

-- its demand
module _ {net : List ℕ} {e a b c : ℕ} (h : EdgeIs net e a b c) (n m : ℕ) (p : ℕ → ℕ) where
  pub edge_meets : p b + 1000000 ≤ p a + c → Meets (stored n m net) p e
  edge_meets l = rw (h.tail, h.head, h.cost) l

  pub meets_edge : Meets (stored n m net) p e → p b + 1000000 ≤ p a + c
  meets_edge l = rw (h.tail, h.head, h.cost) at l

-- net' is net but for the edges from e on
pub record Extends (net net' : List ℕ) (e : ℕ) : Type 0 where
  pub long : length net' ≡ length net
  pub before : (i : ℕ) → i < 4 * e → at net' i ≡ at net i

pub extends_none : (net : List ℕ) (e : ℕ) → Extends net net e
extends_none net e = record { long = refl; before = λ i l. refl }

pub extends_trans : {a b c : List ℕ} {e f : ℕ} → e ≤ f → Extends a b e → Extends b c f → Extends a c e
extends_trans le x y = record { long = y.long ∙ x.long; before = λ i l. y.before i (omega arith) ∙ x.before i l }

-- an edge before e is as it was
pub extends_edge : {net net' : List ℕ} {e j a b c : ℕ} → Extends net net' e → j < e → EdgeIs net j a b c → EdgeIs net' j a b c
extends_edge {net} {net'} {e} {j} x l h =
    record {
      tail = x.before (4 * j) (omega arith) ∙ h.tail;
      head = x.before (4 * j + 1) (omega arith) ∙ h.head;
      cost = x.before (4 * j + 2) (omega arith) ∙ h.cost;
      flow = x.before (4 * j + 3) (omega arith) ∙ h.flow;
    }

-- edge e is stored, and nothing past it
pub record Put (net net' : List ℕ) (e a b c : ℕ) : Type 0 where
  pub extends : Extends net net' e
  pub past : Beyond net net' (4 * e + 4)
  pub edge : EdgeIs net' e a b c

abbrev pub put_edge : List ℕ → ℕ → ℕ → ℕ → ℕ → List ℕ
put_edge net e a b c = set (set (set (set net (4 * e) a) (4 * e + 1) b) (4 * e + 2) c) (4 * e + 3) 0

pub put_is : (net : List ℕ) (e a b c : ℕ) → 4 * e + 3 < length net → Put net (put_edge net e a b c) e a b c
put_is net e a b c l =
    record {
      extends =
          record {
            long = simp length-set refl;
            before = λ i lt. other i (λ q. omega arith) (λ q. omega arith) (λ q. omega arith) (λ q. omega arith);
          };
      past = λ i le. other i (λ q. omega arith) (λ q. omega arith) (λ q. omega arith) (λ q. omega arith);
      edge =
          record {
            tail = off three (4 * e + 3) (4 * e) 0 (λ q. omega arith)
                ∙ off two (4 * e + 2) (4 * e) c (λ q. omega arith) ∙ off one (4 * e + 1) (4 * e) b (λ q. omega arith) ∙ get_or-set_same net (4 * e) a 0 (omega arith);
            head = off three (4 * e + 3) (4 * e + 1) 0 (λ q. omega arith)
                ∙ off two (4 * e + 2) (4 * e + 1) c (λ q. omega arith) ∙ get_or-set_same one (4 * e + 1) b 0 (omega (arith, length-set net (4 * e) a));
            cost = off three (4 * e + 3) (4 * e + 2) 0 (λ q. omega arith) ∙ get_or-set_same two (4 * e + 2) c 0 (omega (arith, length-set net (4 * e) a, length-set one (4 * e + 1) b));
            flow = get_or-set_same three (4 * e + 3) 0 0 (omega (arith, length-set net (4 * e) a, length-set one (4 * e + 1) b, length-set two (4 * e + 2) c));
          };
    }
  where
    one : List ℕ
    one = set net (4 * e) a

    two : List ℕ
    two = set one (4 * e + 1) b

    three : List ℕ
    three = set two (4 * e + 2) c

    off : (xs : List ℕ) (i j x : ℕ) → (j ≡ i → ⊥) → at (set xs i x) j ≡ at xs j
    off xs i j x q = get_or-set_other xs i j x 0 q

    other : (i : ℕ) → (i ≡ 4 * e → ⊥) → (i ≡ 4 * e + 1 → ⊥) → (i ≡ 4 * e + 2 → ⊥) → (i ≡ 4 * e + 3 → ⊥) → at (put_edge net e a b c) i ≡ at net i
    other i p q r s = off three (4 * e + 3) i 0 s ∙ off two (4 * e + 2) i c r ∙ off one (4 * e + 1) i b q ∙ off net (4 * e) i a p

-- ---- boxes

-- low v ≤ p v ≤ high v for the nodes v from 1 to nodes - 1
pub record Boxes (net : List ℕ) (nodes : ℕ) (low high : ℕ → ℕ) : Type 0 where
  pub down : (v : ℕ) → 0 < v → v < nodes → EdgeIs net (2 * v - 2) v 0 (1000000 - low v)
  pub up : (v : ℕ) → 0 < v → v < nodes → EdgeIs net (2 * v - 1) 0 v (1000000 + high v)

-- the boxes of one node are stored, and nothing past them
pub record PutBox (net net' : List ℕ) (v low high : ℕ) : Type 0 where
  pub extends : Extends net net' (2 * v - 2)
  pub past : Beyond net net' (8 * v)
  pub down : EdgeIs net' (2 * v - 2) v 0 (1000000 - low)
  pub up : EdgeIs net' (2 * v - 1) 0 v (1000000 + high)

pub put_box : {net mid net' : List ℕ} (v low high : ℕ) → 0 < v → Put net mid (2 * v - 2) v 0 (1000000 - low) → Put mid net' (2 * v - 1) 0 v (1000000 + high) → PutBox net net' v low high
put_box v low high p x y =
    record {
      extends = extends_trans (omega arith) x.extends y.extends;
      past = λ i le. y.past i (omega arith) ∙ x.past i (omega arith);
      down = extends_edge y.extends (omega arith) x.edge;
      up = y.edge;
    }

pub boxes_none : (net : List ℕ) (low high : ℕ → ℕ) → Boxes net 1 low high
boxes_none net low high = record { down = λ v lo hi. absurd (omega arith); up = λ v lo hi. absurd (omega arith) }

pub boxes_more : {net net' : List ℕ} {v : ℕ} {low high : ℕ → ℕ} → Boxes net v low high → PutBox net net' v (low v) (high v) → Boxes net' (v + 1) low high
boxes_more {net} {net'} {v} {low} {high} B P =
    record {
      down = λ u lo hi. below_more (λ j. 0 < j → EdgeIs net' (2 * j - 2) j 0 (1000000 - low j)) v
          (λ j l pj. extends_edge P.extends (omega arith) (B.down j pj l)) (λ _. P.down) u hi lo;
      up = λ u lo hi. below_more (λ j. 0 < j → EdgeIs net' (2 * j - 1) 0 j (1000000 + high j)) v
          (λ j l pj. extends_edge P.extends (omega arith) (B.up j pj l)) (λ _. P.up) u hi lo;
    }

-- a store past the boxes keeps them
pub boxes_kept : {net net' : List ℕ} {nodes e : ℕ} {low high : ℕ → ℕ} → Extends net net' e → 2 * nodes ≤ e + 2 → Boxes net nodes low high → Boxes net' nodes low high
boxes_kept x l B =
    record {
      down = λ v lo hi. extends_edge x (omega arith) (B.down v lo hi);
      up = λ v lo hi. extends_edge x (omega arith) (B.up v lo hi);
    }

-- what holds of the box edges of the nodes 1 to n holds of the edges below 2 n
pub by_boxes : (P : ℕ → Type 0) (n : ℕ) → ((v : ℕ) → 0 < v → v < n + 1 → P (2 * v - 2) × P (2 * v - 1)) → (e : ℕ) → e < 2 * n → P e
by_boxes P zero h e l = absurd (none l)
  where
    none : e < 0 → ⊥
    none g = omega arith
by_boxes P (suc n) h e l =
    let last = h (suc n) (omega arith) (omega arith) in
    let high : 2 * suc n - 1 ≡ 2 * n + 1 = omega arith in
    let low : 2 * suc n - 2 ≡ 2 * n = omega arith in
    ⊎_elim
    (λ (q : e ≡ 2 * n + 1). subst P (high ∙ sym q) last.1)
    (λ (q : e < 2 * n + 1).
    ⊎_elim
    (λ (s : e ≡ 2 * n). subst P (low ∙ sym s) last.0)
    (λ (s : e < 2 * n). by_boxes P n (λ v lo hi. h v lo (omega arith)) e s)
    (eq-or-lt_of_le (omega arith)))
    (eq-or-lt_of_le (omega arith))
