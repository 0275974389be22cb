-- The end of a search at the distance d: against the origin, a node at the distance x < d has risen by d - x.
use Rattle.std.specs.Prelude.{ℕ, ◌+◌, ◌*◌, ◌-◌, ◌≤◌, ◌<◌, min, ◌≡◌, Option, Some, None, IfSome, IfNone, List, length, set}
use Rattle.std.proofs.Common.{ap, arith, length-set, get_or-set_other}
use Rattle.std.proofs.Math.Logic.{by_cases}
use Rattle.std.proofs.Math.Decide.{dec_le}
use Rattle.network.specs.Stored.{at, Beyond, tail_of, head_of, cost_of, flow_of, Network, Potential, pot_bound}
use Rattle.network.specs.Lists.{by_zero, set_more, zeros_none}
use Rattle.search.specs.Tree.{Reached}
use Rattle.visit.specs.declared.Trail.{Trail}
use Rattle.visit.specs.Search.{Search}

-- every node below n has moved
abbrev pub Moved : List ℕ → List ℕ → List ℕ → ℕ → ℕ → Type 0
Moved pot pot' dist d n = (v : ℕ) → v < n → at pot' v + min (at dist v) d ≡ at pot v + min (at dist 0) d

-- the nodes below n have room to move
pub record Movable (pot dist : List ℕ) (d n : ℕ) : Type 0 where
  pub few : n ≤ 81
  pub long : length pot ≡ 81
  pub low : (v : ℕ) → v < n → min (at dist v) d ≤ at pot v + min (at dist 0) d
  pub high : (v : ℕ) → v < n → at pot v ≤ 1000000
  pub small : d ≤ 2000000

-- pot is pot₀ with the nodes below n moved
pub record Lifted (pot₀ pot dist : List ℕ) (d n : ℕ) : Type 0 where
  pub long : length pot ≡ 81
  pub moved : Moved pot₀ pot dist d n
  pub rest : Beyond pot₀ pot n

pub lifted_more : {pot₀ pot dist : List ℕ} {d n : ℕ} (x : ℕ) → Lifted pot₀ pot dist d n → n < 81
    → x + min (at dist n) d ≡ at pot₀ n + min (at dist 0) d → Lifted pot₀ (set pot n x) dist d (n + 1)
lifted_more {pot₀} {pot} {dist} {d} {n} x h lt e =
    let long = h.long in
    record {
      long = simp length-set long;
      moved = set_more (λ k y. y + min (at dist k) d ≡ at pot₀ k + min (at dist 0) d) pot n x (omega arith) h.moved e;
      rest = λ k l. rw (get_or-set_other pot n k x 0 (omega arith)) (h.rest k (omega arith));
    }

module _ {net : List ℕ} {m nodes : ℕ} {pot : List ℕ} {trail : Trail}
    (S : Search net m nodes pot trail) where
  N : Network net m nodes
  N = S.network

  -- a node that is not scanned is at the search's distance or farther
  past : (v : ℕ) → v < nodes → (0 < at trail.stamp v → at trail.stamp v ≤ trail.scanned → ⊥) → trail.distance ≤ at trail.dist v
  past v lv h =
      by_zero (at trail.stamp v)
      (λ z. S.far v lv z)
      (λ p. S.waiting v lv (omega (arith, by_cases (dec_le (at trail.stamp v) trail.scanned) (λ l. absurd (h p l)) (λ n. n))))

  -- within that distance, every edge is relaxed
  short : (e : ℕ) → e < m
      → min (at trail.dist (tail_of net e)) trail.distance + (at pot (head_of net e) + 1000000) ≤ min (at trail.dist (head_of net e)) trail.distance + (at pot (tail_of net e) + cost_of net e)
  short e le =
      let f = S.potential.feasible e le in
      by_zero (at trail.stamp (head_of net e))
      (λ z. omega (arith, S.far (head_of net e) (N.heads e le) z))
      (λ p. by_cases (dec_le (at trail.stamp (head_of net e)) trail.scanned)
      (λ l. omega (arith, S.into e le p l))
      (λ n. omega (arith, S.waiting (head_of net e) (N.heads e le) (omega arith))))

  level : (e : ℕ) → e < m → 0 < flow_of net e → min (at trail.dist (head_of net e)) trail.distance ≤ min (at trail.dist (tail_of net e)) trail.distance
  level e le pf =
      by_zero (at trail.stamp (tail_of net e))
      (λ z. omega (arith, S.far (tail_of net e) (N.tails e le) z))
      (λ p. by_cases (dec_le (at trail.stamp (tail_of net e)) trail.scanned)
      (λ l. omega (arith, S.back e le p l pf))
      (λ n. omega (arith, S.waiting (tail_of net e) (N.tails e le) (omega arith))))

  pub search_room : Movable pot trail.dist trail.distance nodes
  search_room =
      record {
        few = N.few;
        long = S.potential.long;
        low = λ v lv. by_zero v
            (λ z. rw z (omega arith))
            (λ p.
            let u = N.down v lv p in
            let lm : 2 * v - 2 < m = omega (arith, N.links v lv p) in
            omega (arith, rw (u.0, u.1) at (short (2 * v - 2) lm), S.potential.origin, u.2));
        high = pot_bound net m nodes pot N S.potential;
        small = S.bound;
      }

  module _ (pot' : List ℕ) (long : length pot' ≡ 81) (mv : Moved pot pot' trail.dist trail.distance nodes) where
    moved_potential : Potential net m pot'
    moved_potential =
        record {
          long = long;
          origin = omega (arith, mv 0 N.some, S.potential.origin);
          feasible = λ e le. omega (arith, mv _ (N.tails e le), mv _ (N.heads e le), short e le);
          tight = λ e le pf. omega (arith, mv _ (N.tails e le), mv _ (N.heads e le), short e le, level e le pf, S.potential.tight e le pf);
        }

    pub search_reached : (goal : List ℕ) (r : Option ℕ) → IfSome r (λ v. (v < nodes) × (0 < at trail.stamp v) × (0 < at goal v))
        → IfNone r ((nodes ≤ trail.reached) × ((v : ℕ) → v < nodes → 0 < at trail.stamp v → at goal v ≡ 0))
        → Reached net m nodes pot' trail.stamp trail.via trail.root goal r
    search_reached goal r found none =
        record {
          network = N;
          potential = moved_potential;
          stamps = S.sizes.0;
          vias = S.sizes.1;
          rooted = omega (arith, S.rooted.0);
          linked = λ v lv ne p.
              let o = S.offers v lv ne (omega (arith, S.near v lv p, S.bound)) in
              let b = S.linked v lv ne p in
              record {
                edge = o.edge;
                forth = λ q. ((o.forth q).0, b.forth q);
                back = λ q. ((o.back q).0, b.back q, (o.back q).1, (o.back q).2);
              };
          tight_links = λ v lv ne p q.
              let o = S.offers v lv ne (omega (arith, S.near v lv p, S.bound)) in
              let f = o.forth q in
              let h = S.near (head_of net (at trail.via v)) (N.heads (at trail.via v) o.edge) f.0 in
              omega (arith, mv _ (N.tails (at trail.via v) o.edge), mv _ (N.heads (at trail.via v) o.edge), f.1, h, S.near v lv p, ap (at trail.dist) q, ap (at pot) q);
          found = found;
          all = all_reached goal r none;
        }
      where
        all_reached : (goal : List ℕ) (r : Option ℕ) → IfNone r ((nodes ≤ trail.reached) × ((v : ℕ) → v < nodes → 0 < at trail.stamp v → at goal v ≡ 0))
            → IfNone r ((v : ℕ) → v < nodes → (0 < at trail.stamp v) × (at goal v ≡ 0))
        all_reached goal (Some v) n = n
        all_reached goal None n = λ v lv.
            let p = zeros_none trail.stamp nodes (omega (arith, S.count, n.0)) v lv in
            (p, n.1 v lv p)
