-- All nodes but the origin rise by the same: where no flow runs, and by no more than the headroom, the potential stays one.
use Rattle.std.specs.Prelude.{ℕ, ◌+◌, ◌≤◌, ◌<◌, ◌≡◌, refl, List, length, set}
use Rattle.std.proofs.Common.{ap, ◌∙◌, ⊎_elim, arith, eq-or-lt_of_le, length-set, get_or-set_same, get_or-set_other}
use Rattle.network.specs.Lists.{by_zero}
use Rattle.network.specs.Stored.{at, tail_of, head_of, flow_of, Beyond, Network, Potential}
use Rattle.edge.specs.Headroom.{Headroom}

-- pot' is pot with the nodes 1 to n - 1 raised by h
pub record Shifted (pot pot' : List ℕ) (n h : ℕ) : Type 0 where
  pub long : length pot' ≡ 81
  pub origin : at pot' 0 ≡ at pot 0
  pub up : (v : ℕ) → 0 < v → v < n → at pot' v ≡ at pot v + h
  pub beyond : Beyond pot pot' n

pub shifted_none : (pot : List ℕ) (h : ℕ) → length pot ≡ 81 → Shifted pot pot 1 h
shifted_none pot h long = record { long = long; origin = refl; up = λ v p l. absurd (omega arith); beyond = λ v l. refl }

-- node n rises
pub shifted_more : {pot pot' : List ℕ} {n h : ℕ} → Shifted pot pot' n h → 0 < n → n < 81 → Shifted pot (set pot' n (at pot' n + h)) (n + 1) h
shifted_more {pot} {pot'} {n} {h} S p l =
    record {
      long = simp length-set S.long;
      origin = other 0 (omega arith) ∙ S.origin;
      up = λ v pv lv. ⊎_elim
          (λ (q : v ≡ n). rw q (omega (arith, get_or-set_same pot' n (at pot' n + h) 0 (omega (arith, S.long)), S.beyond n (omega arith))))
          (λ (w : v < n). other v (λ q. omega arith) ∙ S.up v pv w)
          (eq-or-lt_of_le (omega arith));
      beyond = λ v lv. other v (λ q. omega arith) ∙ S.beyond v (omega arith);
    }
  where
    other : (v : ℕ) → (v ≡ n → ⊥) → at (set pot' n (at pot' n + h)) v ≡ at pot' v
    other v q = get_or-set_other pot' n v (at pot' n + h) 0 q

-- An edge between two nodes keeps its slack, an edge to the origin gains, an edge from the origin loses h, and one from the origin to itself does not move.
pub shifted_potential : {net : List ℕ} {m nodes : ℕ} {pot pot' : List ℕ} {r h : ℕ} → Network net m nodes → Potential net m pot → ((e : ℕ) → e < m → flow_of net e ≡ 0)
    → Headroom net m pot r → h ≤ r → Shifted pot pot' nodes h → Potential net m pot'
shifted_potential {net} {m} {nodes} {pot} {pot'} {r} {h} N P still H l S =
    record {
      long = S.long;
      origin = S.origin ∙ P.origin;
      feasible = λ e le.
          let f = P.feasible e le in
          by_zero (head_of net e)
          (λ b. by_zero (tail_of net e)
          (λ a. omega (arith, f, stays (head_of net e) b, stays (tail_of net e) a))
          (λ a. omega (arith, f, stays (head_of net e) b, S.up (tail_of net e) a (N.tails e le))))
          (λ b. by_zero (tail_of net e)
          (λ a. omega (arith, H.fits e le a, ap (at pot) a, stays (tail_of net e) a, S.up (head_of net e) b (N.heads e le)))
          (λ a. omega (arith, f, S.up (head_of net e) b (N.heads e le), S.up (tail_of net e) a (N.tails e le))));
      tight = λ e le pf. absurd (omega (arith, still e le));
    }
  where
    stays : (v : ℕ) → v ≡ 0 → at pot' v ≡ at pot v
    stays v q = rw q S.origin
