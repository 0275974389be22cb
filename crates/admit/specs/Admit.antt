-- Adding one demand to a network with no flow, by a lift or by a search. Where no flow runs, a search from node a that ends at node b leaves a potential that has b as low
-- against a as any potential has it: the links from b to a are edges with no slack.
use Rattle.std.specs.Prelude.{ℕ, zero, suc, ◌+◌, ◌*◌, ◌-◌, ◌≤◌, ◌<◌, ◌≡◌, refl, Bool, true, false, Option, Some, None, List, Ok, Err, length, set, replicate}
use Rattle.std.proofs.Common.{sym, ap, ◌∙◌, arith, lt-suc_self, get_or-set_other}
use Rattle.std.proofs.Math.Logic.{by_cases}
use Rattle.std.proofs.Math.Decide.{ℕ_discrete}
use Rattle.network.specs.Lists.{differ, zeros_at}
use Rattle.network.specs.Network.{Meets}
use Rattle.network.specs.Stored.{at, tail_of, head_of, flow_of, stored}
use Rattle.network.specs.Edges.{Extends, Put}
use Rattle.network.specs.Index.{end_tail, index_link, listing_fits}
use Rattle.search.specs.Tree.{Reached}
use Rattle.lift.specs.declared.Unmet.TheVariants.{Ring}
use Rattle.lift.specs.Lift.{Lifts}
use Rattle.network.specs.Grow.{Growing, Impossible, extends_meets, flowless_more}

-- a store past the edges keeps it so
extends_impossible : {net net' : List ℕ} {m : ℕ} → Extends net net' m → (a b c : ℕ) → Impossible net' m a b c → Impossible net m a b c
extends_impossible x a b c h q meets = h q (λ e l. extends_meets x q e l (meets e l))

-- ---- as near as the edges allow

module _ {net : List ℕ} {m nodes : ℕ} {pot stamp via : List ℕ} {root : ℕ} {goal : List ℕ} {r : Option ℕ} (R : Reached net m nodes pot stamp via root goal r) where
  -- By induction on a bound of the stamps.
  chained : ((e : ℕ) → e < m → flow_of net e ≡ 0) → (q : ℕ → ℕ) → ((e : ℕ) → e < m → Meets (stored 0 0 net) q e)
      → (s v : ℕ) → at stamp v < s → v < nodes → 0 < at stamp v → q root + at pot v ≤ q v + at pot root
  chained still q h zero v l lv p = absurd (omega arith)
  chained still q h (suc s) v l lv p =
      by_cases (ℕ_discrete v root)
      (λ same. rw same (omega arith))
      (λ ne.
      let L = R.linked v lv ne p in
      let e = at via v in
      by_cases (ℕ_discrete (tail_of net e) v)
      (λ from.
      let f = L.forth from in
      omega (
        arith,
        chained still q h s (head_of net e) (omega (arith, f.1)) (R.network.heads e L.edge) f.0,
        h e L.edge,
        R.tight_links v lv ne p from,
        ap q from,
        ap (at pot) from,
      ))
      (λ other. absurd (omega (arith, (L.back other).3, still e L.edge))))

-- what `approach` leaves: where the demand still fails, it is impossible
pub record Approached (net : List ℕ) (m nodes : ℕ) (pot tails heads : List ℕ) (a b c : ℕ) : Type 0 where
  pub growing : Growing net m nodes pot tails heads
  pub far : at pot a + c < at pot b + 1000000 → Impossible net m a b c

module _ {net : List ℕ} {m nodes : ℕ} {pot tails heads : List ℕ} (G : Growing net m nodes pot tails heads) where
  pub approached_now : {a b c : ℕ} → at pot b + 1000000 ≤ at pot a + c → Approached net m nodes pot tails heads a b c
  approached_now d = record { growing = G; far = λ l. absurd (omega arith) }

  -- by a lift that meets the demand, or finds that it is impossible
  pub approached_lift : {pot' : List ℕ} {a b c : ℕ} → Lifts net m nodes pot pot' a b c (Ok tt) → Approached net m nodes pot' tails heads a b c
  approached_lift L = record {
    growing =
        record {
          flowless =
              record {
                network = G.flowless.network;
                potential =
                    record {
                      long = L.long refl;
                      origin = L.origin refl;
                      feasible = L.feasible refl;
                      tight = λ e le p. absurd (omega (arith, G.flowless.flows e le, p));
                    };
                flows = G.flowless.flows;
              };
          by_tail = G.by_tail;
          by_head = G.by_head;
        };
    far = λ k. absurd (omega (arith, k, L.held refl));
  }

  pub approached_ring : {pot' : List ℕ} {a b c : ℕ} → Lifts net m nodes pot pot' a b c (Err Ring) → Approached net m nodes pot' tails heads a b c
  approached_ring L = record { growing = rw (L.kept (λ z. absurd cc)) G; far = λ k. L.impossible refl }

  -- by a search from a with the one goal b
  pub approached_search : {pot' stamp via : List ℕ} (a b c : ℕ) {r : Option ℕ} → Reached net m nodes pot' stamp via a (set (replicate 81 0) b 1) r → b < nodes
      → Approached net m nodes pot' tails heads a b c
  approached_search {pot'} {stamp} {via} a b c {r} R lb =
      record {
        growing =
            record {
              flowless = record { network = R.network; potential = R.potential; flows = G.flowless.flows };
              by_tail = G.by_tail;
              by_head = G.by_head;
            };
        far = λ l q meets. omega (arith, chained R G.flowless.flows q meets (suc (at stamp b)) b (lt-suc_self (at stamp b)) lb (found r R));
      }
    where
      found : (r : Option ℕ) → Reached net m nodes pot' stamp via a (set (replicate 81 0) b 1) r → 0 < at stamp b
      found (Some v) R =
          by_cases (ℕ_discrete v b)
          (λ q. rw q at R.found.1)
          (λ q. absurd (omega (arith, R.found.2, get_or-set_other {A = ℕ} (replicate 81 0) b v 1 0 q, zeros_at 81 v)))
      found None R = (R.all b lb).0

-- what `admit` asks of the edge, and of the lists that it is put into
pub record Admissible (net : List ℕ) (m nodes : ℕ) (tails heads : List ℕ) (a b c : ℕ) : Type 0 where
  pub size : 4 * m + 3 < length net
  pub room : m < 4000
  pub by_tail : 81 + (m + 2 - 2 * nodes) < length tails
  pub by_head : 81 + (m + 2 - 2 * nodes) < length heads
  pub tail : a < nodes
  pub head : b < nodes
  pub cost : c ≤ 2000000

-- what `admit` leaves: edge m is stored; admitted, it belongs to the network; refused, no potential of the others meets its demand
pub record Admits (net net' : List ℕ) (m nodes : ℕ) (pot tails heads : List ℕ) (a b c : ℕ) (r : Bool) : Type 0 where
  pub put : Put net net' m a b c
  pub admitted : r ≡ true → Growing net' (m + 1) nodes pot tails heads
  pub refused : r ≡ false → Growing net' m nodes pot tails heads × Impossible net m a b c

module _ {net net' : List ℕ} {m nodes : ℕ} {pot tails heads : List ℕ} {a b c : ℕ} (P : Put net net' m a b c) (A : Approached net' m nodes pot tails heads a b c) where
  pub admits_yes : {tails' heads' : List ℕ} (place : ℕ) → Admissible net m nodes tails heads a b c → at pot b + 1000000 ≤ at pot a + c → place ≡ 81 + (m + 2 - 2 * nodes)
      → tails' ≡ set (set tails place (at tails a)) a (m + 1) → heads' ≡ set (set heads place (at heads b)) b (m + 1) → Admits net net' m nodes pot tails' heads' a b c true
  admits_yes place F d there T H =
      let N = A.growing.flowless.network in
      let l = listing_fits N in
      record {
        put = P;
        admitted = λ e.
            record {
              flowless = flowless_more A.growing.flowless P.edge (omega (arith, P.extends.long, F.size)) F.room F.tail F.head F.cost d;
              by_tail = index_link place a A.growing.by_tail l.1 (omega (arith, F.by_tail)) (omega (arith, F.tail, N.few))
                  (end_tail net' m ∙ P.edge.tail) (omega (arith, N.some)) T;
              by_head = index_link place b A.growing.by_head l.1 (omega (arith, F.by_head)) (omega (arith, F.head, N.few)) P.edge.head (omega (arith, N.some)) H;
            };
        refused = λ e. differ e;
      }

  pub admits_no : at pot a + c < at pot b + 1000000 → Admits net net' m nodes pot tails heads a b c false
  admits_no far =
      record {
        put = P;
        admitted = λ e. differ (sym e);
        refused = λ e. (A.growing, extends_impossible P.extends a b c (A.far far));
      }
