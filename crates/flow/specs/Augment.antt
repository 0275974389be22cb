-- Flow is sent to a root from a node with some supply: a search finds the node, and the flow is pushed along the links, which have no slack.
use Rattle.std.specs.Prelude.{ℕ, ◌+◌, ◌*◌, ◌-◌, ◌≤◌, ◌<◌, ◌≡◌, refl, Option, Some, None, IsSome, List, length, set}
use Rattle.std.proofs.Common.{ap, arith}
use Rattle.network.specs.Stored.{at, tail_of, flow_of, Kept, Network, Potential, kept_network, kept_potential}
use Rattle.network.specs.Lists.{by_zero}
use Rattle.network.specs.Index.{Index}
use Rattle.search.specs.Tree.{TightLinks, Reached}
use Rattle.network.specs.Sum.{when_eq}
use Rattle.network.specs.Flow.{out_of, into}
use Rattle.path.specs.Push.{SmallFlow, Pushed, Loaded, Sends}

-- After a push along links with no slack the potential still fits, and the network is a network.
module _ {net net' : List ℕ} {m nodes : ℕ} {stamp via : List ℕ} {root start f cur : ℕ} (N : Network net m nodes)
    (P : Pushed net net' m nodes stamp via root start f cur) where
  push_potential : (pot : List ℕ) → Potential net m pot → TightLinks net nodes pot stamp via root → Potential net' m pot
  push_potential pot F tight_links =
      kept_potential net net' m pot P.kept F (λ e l p.
      by_zero (flow_of net e)
      (λ z.
      let r = P.rose e l z p in
      rw r.2 at (tight_links (tail_of net e) (N.tails e l) r.0 r.1 (ap (tail_of net) r.2)))
      (λ q. F.tight e l q))

-- where some node has a goal, a search ends at one
pub found_goal : {net : List ℕ} {m nodes : ℕ} {pot stamp via : List ℕ} {root : ℕ} {goal : List ℕ} (r : Option ℕ) → Reached net m nodes pot stamp via root goal r
    → (v : ℕ) × (v < nodes) × (0 < at goal v) → IsSome r
found_goal (Some v) R g = refl
found_goal None R g = absurd (omega (arith, R.all g.0 g.1, g.2))

-- where none has, every node is reached
pub found_all : {net : List ℕ} {m nodes : ℕ} {pot stamp via : List ℕ} {root : ℕ} {goal : List ℕ} (r : Option ℕ) → Reached net m nodes pot stamp via root goal r
    → ((v : ℕ) → at goal v ≡ 0) → (v : ℕ) → v < nodes → 0 < at stamp v
found_all (Some u) R none v l = absurd (omega (arith, R.found.2, none u))
found_all None R none v l = (R.all v l).0

-- what augmenting the flow to root by at most want units asks
pub record Ready (net : List ℕ) (m nodes : ℕ) (tails heads pot : List ℕ) (root : ℕ) (supply : List ℕ) (want : ℕ) : Type 0 where
  pub network : Network net m nodes
  pub potential : Potential net m pot
  pub by_tail : Index net m (2 * nodes - 2) 0 tails
  pub by_head : Index net m (2 * nodes - 2) 1 heads
  pub inside : root < nodes
  pub small : SmallFlow net m
  pub long : length supply ≡ 81
  pub left : (v : ℕ) × (v < nodes) × (0 < at supply v)
  pub some : 0 < want
  pub few : want ≤ 3

-- f units more flow from start, which has them, to root, and the potential fits
pub record Augmented (net net' : List ℕ) (m nodes : ℕ) (pot : List ℕ) (root : ℕ) (supply supply' : List ℕ) (want f : ℕ) : Type 0 where
  pub network : Network net' m nodes
  pub potential : Potential net' m pot
  pub long : length net' ≡ length net
  pub kept : Kept net net' m
  pub bound : (e : ℕ) → e < m → flow_of net' e ≤ flow_of net e + f
  pub some : 0 < f
  pub most : f ≤ want
  pub start : ℕ
  pub balance : (v : ℕ) → out_of net' m v + into net m v + when_eq root v f ≡ out_of net m v + into net' m v + when_eq start v f
  pub has : f ≤ at supply start
  pub sent : supply' ≡ set supply start (at supply start - f)

pub loaded : {net : List ℕ} {m nodes : ℕ} {tails heads pot₀ pot stamp via : List ℕ} {root : ℕ} {supply : List ℕ} {start want : ℕ}
    → Ready net m nodes tails heads pot₀ root supply want → Reached net m nodes pot stamp via root supply (Some start)
    → Loaded net m nodes stamp via root start supply want
loaded A R =
    record {
      network = A.network;
      linked = R.linked;
      small = A.small;
      inside = R.found.0;
      reached = R.found.1;
      long = A.long;
      has = R.found.2;
      some = A.some;
      few = A.few;
    }

pub augmented : {net net' : List ℕ} {m nodes : ℕ} {tails heads pot₀ pot stamp via : List ℕ} {root : ℕ} {supply supply' : List ℕ} {start want f : ℕ}
    → Ready net m nodes tails heads pot₀ root supply want → Reached net m nodes pot stamp via root supply (Some start)
    → Sends net net' m nodes stamp via root start supply supply' want f
    → Augmented net net' m nodes pot root supply supply' want f
augmented {net} {net'} {m} {nodes} {pot = pot} {start = start} A R S =
    let P = S.pushed in
    record {
      network = kept_network net net' m nodes P.long P.kept A.network;
      potential = push_potential A.network P pot R.potential R.tight_links;
      long = P.long;
      kept = P.kept;
      bound = P.bound;
      some = S.some;
      most = S.most;
      start = start;
      balance = P.balance;
      has = S.has;
      sent = S.sent;
    }
