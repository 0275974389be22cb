-- Whether there is a schedule: a network of the points with boxes from 0 to the horizon, to which the rules are added one after the other.
-- Rests on network's Growing and Admits.
use Rattle.std.specs.Prelude.{ℕ, zero, suc, ◌+◌, ◌*◌, ◌-◌, ◌≤◌, ◌<◌, ◌≡◌, refl, Bool, true, false, List, pos, length, get_or, set, replicate}
use Rattle.std.proofs.Common.{sym, ◌∙◌, subst, ⊎_elim, arith, below_none, length-set, get_or-set_same, get_or-set_other}
use Rattle.std.proofs.lemmas.List.{length-replicate, get_or-replicate}
use Rattle.temporal.proofs.Lists.{below_or_not}
use Rattle.temporal.specs.Bound.{biased}
use Rattle.network.specs.Lists.{zeros_at, differ}
use Rattle.network.specs.Network.{Meets}
use Rattle.network.specs.Stored.{at, stored}
use Rattle.network.specs.Edges.{edge_meets, meets_edge, Boxes, boxes_kept, by_boxes}
use Rattle.network.specs.Grow.{Growing, boxes_growing}
use Rattle.admit.specs.Admit.{Admits}
use Rattle.ticket.specs.declared.Ticket.{Ticket}
use Rattle.potentials.specs.Arrays.{Given}
use Rattle.potentials.specs.Nodes.{close_self}
use Rattle.demands.specs.Network.{Ruled, ruled_more}
use Rattle.schedule.specs.Times.{Timed}

-- times of n events within the horizon h, the origin at 0
pub record Low (n h : ℕ) (xs : List ℕ) : Type 0 where
  pub long : length xs ≡ 81
  pub origin : at xs 0 ≡ 0
  pub most : (v : ℕ) → v ≤ n → at xs v ≤ h

pub low_zeros : (n h : ℕ) → Low n h (replicate 81 0)
low_zeros n h = record { long = refl; origin = refl; most = λ v l. omega (arith, zeros_at 81 v) }

pub low_set : {n h : ℕ} {xs : List ℕ} {i x : ℕ} → 0 < i → i < 81 → x ≤ h → Low n h xs → Low n h (set xs i x)
low_set {n} {h} {xs} {i} {x} p li l L = record {
  long = simp length-set L.long;
  origin = get_or-set_other xs i 0 x 0 (λ q. omega arith) ∙ L.origin;
  most = λ v lv.
      ⊎_elim
      (λ (q : v < i). rw (get_or-set_other xs i v x 0 (λ s. omega arith)) (L.most v lv))
      (λ (q : i ≤ v).
      ⊎_elim
      (λ (s : i < v). rw (get_or-set_other xs i v x 0 (λ e. omega arith)) (L.most v lv))
      (λ (s : v ≤ i).
      let e : v ≡ i = omega arith in
      rw (e, get_or-set_same xs i x 0 (omega (arith, L.long))) l)
      (below_or_not i v))
      (below_or_not v i);
}

-- whether there is a schedule; its times, if there is one
pub record Decided (t : Ticket) (times : List ℕ) (r : Bool) : Type 0 where
  pub found : r ≡ true → Timed t (at times)
  pub long : r ≡ true → length times ≡ 81
  pub none : r ≡ false → (p : ℕ → ℕ) → Timed t p → ⊥

pub decided_yes : {t : Ticket} {times : List ℕ} → length times ≡ 81 → Timed t (at times) → Decided t times true
decided_yes l T = record { found = λ _. T; long = λ _. l; none = λ e. differ e }

pub decided_no : {t : Ticket} {times : List ℕ} → ((p : ℕ → ℕ) → Timed t p → ⊥) → Decided t times false
decided_no h = record { found = λ e. differ (sym e); long = λ e. differ (sym e); none = λ _. h }

pub decided_found : {t : Ticket} {times : List ℕ} {r : Bool} → Decided t times r → r ≡ true → Decided t times true
decided_found {t} {times} D e = subst (Decided t times) e D

-- the first j rules are in the network of the points
pub record Tried (net : List ℕ) (size : ℕ) (t : Ticket) (pot tails heads : List ℕ) (j : ℕ) : Type 0 where
  pub long : length net ≡ size
  pub boxes : Boxes net (t.events + 1) (λ v. 0) (λ v. t.horizon)
  pub ruled : Ruled net t 0 (2 * t.events) j
  pub growing : Growing net (2 * t.events + j) (t.events + 1) pot tails heads

pub tried_start : {net : List ℕ} {t : Ticket} {pot : List ℕ} → Given t → 8 * t.events ≤ length net → Low t.events t.horizon pot
    → Boxes net (t.events + 1) (at (replicate 81 0)) (at (replicate 81 t.horizon)) → Tried net (length net) t pot (replicate 400 0) (replicate 400 0) 0
tried_start {net} {t} {pot} G size L B =
    let n = t.events in
    let h = t.horizon in
    let e : 2 * n + 0 ≡ 2 * n = omega arith in
    let C : Boxes net (n + 1) (λ v. 0) (λ v. h) = record {
      down = λ v lo hi. rw (get_or-replicate {A = ℕ} 81 v 0 0 (omega (arith, G.few))) at (B.down v lo hi);
      up = λ v lo hi. rw (get_or-replicate {A = ℕ} 81 v h 0 (omega (arith, G.few))) at (B.up v lo hi);
    } in
    record {
      long = refl;
      boxes = C;
      ruled = below_none _;
      growing = rw e (boxes_growing C pot (replicate 400 0) (replicate 400 0) (omega (arith, G.few)) size (λ v lo hi. G.top) L.long L.origin
          (λ v lo hi. (omega arith, L.most v (omega arith))) (omega (arith, length-replicate {A = ℕ} 400 0)) (λ k l. zeros_at 400 k) (omega (arith, length-replicate {A = ℕ} 400 0)) (λ k l. zeros_at 400 k));
    }

-- a rule more, or none with it
module _ {net net' : List ℕ} {size : ℕ} {t : Ticket} {pot tails heads : List ℕ} {j : ℕ} (T : Tried net size t pot tails heads j)
    {pot' tails' heads' : List ℕ} {r : Bool}
    (A : Admits net net' (2 * t.events + j) (t.events + 1) pot' tails' heads' (at t.from j) (at t.to j) (biased (get_or t.bound j (pos 0))) r) where
  pub tried_more : r ≡ true → Tried net' size t pot' tails' heads' (j + 1)
  tried_more e =
      let s : 2 * t.events + (j + 1) ≡ 2 * t.events + j + 1 = omega arith in
      record {
        long = A.put.extends.long ∙ T.long;
        boxes = boxes_kept A.put.extends (omega arith) T.boxes;
        ruled = ruled_more t 0 (2 * t.events) j T.ruled (rw (close_self (at t.to j)) A.put);
        growing = rw s (A.admitted e);
      }

  -- a rule that cannot be met with those before it leaves no schedule
  pub tried_none : j < t.rules → r ≡ false → (p : ℕ → ℕ) → Timed t p → ⊥
  tried_none lj e p S =
      let broken = (A.refused e).1 p meets in
      let kept = rw (close_self (at t.to j)) at (S.obeys j lj) in
      omega (arith, broken, kept)
    where
      meets : (e : ℕ) → e < 2 * t.events + j → Meets (stored 0 0 net) p e
      meets e l =
          ⊎_elim
          (λ (b : e < 2 * t.events). by_boxes (λ e. Meets (stored 0 0 net) p e) t.events (λ v lo hi. (
            edge_meets (T.boxes.down v lo hi) 0 0 p (omega (arith, S.origin)),
            edge_meets (T.boxes.up v lo hi) 0 0 p (omega (arith, S.origin, S.inside v (omega arith))),
          )) e b)
          (λ (b : 2 * t.events ≤ e).
          let x : 2 * t.events + (e - 2 * t.events) ≡ e = omega arith in
          subst (λ e. Meets (stored 0 0 net) p e) x
          (edge_meets (T.ruled (e - 2 * t.events) (omega arith)) 0 0 p (S.obeys (e - 2 * t.events) (omega arith))))
          (below_or_not e (2 * t.events))

-- with all rules in the network, its potential gives a schedule's times
pub tried_timed : {net : List ℕ} {size : ℕ} {t : Ticket} {pot tails heads : List ℕ} → Tried net size t pot tails heads t.rules → Timed t (at pot)
tried_timed {t = t} {pot = pot} T =
    let P = T.growing.flowless.potential in
    record {
      origin = P.origin;
      inside = λ v l. inside v l;
      obeys = λ j l. meets_edge (T.ruled j l) 0 0 (at pot) (P.feasible (2 * t.events + j) (omega arith));
    }
  where
    inside : (v : ℕ) → v ≤ t.events → at pot v ≤ t.horizon
    inside zero l = omega (arith, T.growing.flowless.potential.origin)
    inside (suc i) l =
        let P = T.growing.flowless.potential in
        omega (arith, P.origin, meets_edge (T.boxes.up (suc i) (omega arith) (omega arith)) 0 0 (at pot) (P.feasible (2 * suc i - 1) (omega arith)))
