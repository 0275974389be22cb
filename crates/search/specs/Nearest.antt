-- The node that is reached next: of those that are not, one at the least distance. It is found by the keys, and is at 2000000 at most.
use Rattle.std.specs.Prelude.{ℕ, ◌+◌, ◌*◌, ◌-◌, ◌≤◌, ◌<◌, min, ◌≡◌, refl, List}
use Rattle.std.proofs.Common.{ap, arith, below_more}
use Rattle.std.proofs.Math.Logic.{by_cases}
use Rattle.std.proofs.Math.Decide.{dec_lt}
use Rattle.network.specs.Lists.{by_zero, zeros_some}
use Rattle.network.specs.Stored.{at, Network, Potential, pot_bound}
use Rattle.visit.specs.declared.Trail.{Trail}
use Rattle.visit.specs.Search.{Search, joined, search_join, search_farther}

-- x is the least of the first n keys
pub record LeastKey (key : List ℕ) (n x : ℕ) : Type 0 where
  pub least : (v : ℕ) → v < n → x ≤ at key v
  pub held : (v : ℕ) × (v < n) × (at key v ≡ x)

pub least_one : (key : List ℕ) → LeastKey key 1 (at key 0)
least_one key = record { least = λ v l. let z : v ≡ 0 = omega arith in rw z (omega arith); held = (0, omega arith, refl) }

pub least_more : {key : List ℕ} {n x y : ℕ} → LeastKey key n x → y ≡ min x (at key n) → LeastKey key (n + 1) y
least_more {key} {n} {x} {y} h q =
    record {
      least = below_more (λ v. y ≤ at key v) n (λ v l. omega (arith, h.least v l)) (omega arith);
      held = by_cases (dec_lt (at key n) x)
          (λ l. (n, omega arith, omega arith))
          (λ l. let o = h.held in (o.0, omega (arith, o.1), omega (arith, o.2)));
    }

-- w has the least key
pub record Nearest (key : List ℕ) (w : ℕ) : Type 0 where
  pub inside : w < 81
  pub least : (v : ℕ) → v < 81 → at key w ≤ at key v

-- no key is below the distance that the search came to
pub keys_from : {net : List ℕ} {m nodes : ℕ} {pot : List ℕ} {trail : Trail} → Search net m nodes pot trail
    → (v : ℕ) → v < 81 → trail.distance ≤ at trail.key v
keys_from {nodes = nodes} {trail = trail} S v l =
    by_cases (dec_lt v nodes)
    (λ lv. by_zero (at trail.stamp v)
    (λ z. omega (arith, S.far v lv z, (S.keyed.keys v lv).out z))
    (λ p. omega (arith, S.bound, (S.keyed.keys v lv).reached p)))
    (λ n. omega (arith, S.bound, S.keyed.rest v (omega arith) l))

module _ {net : List ℕ} {m nodes : ℕ} {pot : List ℕ} {trail : Trail}
    (S : Search net m nodes pot trail) (some : 0 < trail.scanned) (all : trail.reached ≤ trail.scanned) (more : trail.scanned < nodes) where
  N : Network net m nodes
  N = S.network

  P : Potential net m pot
  P = S.potential

  -- the origin is near
  origin_dist : at trail.dist 0 ≤ 1000000
  origin_dist =
      by_zero trail.root
      (λ z. omega (arith, ap (at trail.dist) z, S.rooted.1))
      (λ p.
      let u = N.up trail.root S.inside p in
      let lm : 2 * trail.root - 1 < m = omega (arith, N.links trail.root S.inside p) in
      let h = rw (u.0, u.1) at (S.into (2 * trail.root - 1) lm (rw u.1 (omega (arith, S.rooted.0))) (rw u.1 (omega (arith, S.rooted.0)))) in
      omega (arith, h, P.origin, N.costs (2 * trail.root - 1) lm, S.rooted.1))

  -- so is a node that is not reached, where the origin is reached
  out_dist : (v : ℕ) → v < nodes → at trail.stamp v ≡ 0 → 0 < at trail.stamp 0 → at trail.dist v ≤ 2000000
  out_dist v lv z p₀ =
      by_zero v
      (λ q. absurd (omega (arith, ap (at trail.stamp) q)))
      (λ p.
      let u = N.down v lv p in
      let lm : 2 * v - 2 < m = omega (arith, N.links v lv p) in
      let h = rw (u.0, u.1) at (S.into (2 * v - 2) lm (rw u.1 p₀) (rw u.1 (omega (arith, (S.place 0 N.some p₀).0)))) in
      omega (arith, h, P.origin, u.2, origin_dist, pot_bound net m nodes pot N P v lv))

  -- so some node that is not reached is
  some_near : (v : ℕ) × (v < nodes) × (at trail.stamp v ≡ 0) × (at trail.dist v ≤ 2000000)
  some_near =
      let z = zeros_some trail.stamp nodes (omega (arith, S.count)) in
      by_zero (at trail.stamp 0)
      (λ out. (0, N.some, out, omega (arith, origin_dist)))
      (λ p. (z.0, z.1, z.2, out_dist z.0 z.1 z.2 p))

  module _ (w : ℕ) (h : Nearest trail.key w) where
    pub nearest_out : (w < nodes) × (at trail.stamp w ≡ 0) × (at trail.dist w ≤ 2000000)
    nearest_out =
        let f = some_near in
        let low : at trail.key w ≤ 2000000 = omega (arith, h.least f.0 (omega (arith, f.1, N.few)), (S.keyed.keys f.0 f.1).out f.2, f.3) in
        let lw : w < nodes = by_cases (dec_lt w nodes) (λ l. l) (λ n. absurd (omega (arith, S.keyed.rest w (omega arith) h.inside))) in
        let out : at trail.stamp w ≡ 0 = by_zero (at trail.stamp w) (λ z. z) (λ p. absurd (omega (arith, (S.keyed.keys w lw).reached p))) in
        (lw, out, omega (arith, (S.keyed.keys w lw).out out))

    pub search_nearest : Search net m nodes pot (joined (record trail { distance = at trail.dist w }) w)
    search_nearest =
        let o = nearest_out in
        search_join
        (search_farther S (at trail.dist w) all (S.far w o.0 o.1) o.2
        (λ v lv z. omega (arith, h.least v (omega (arith, N.few)), (S.keyed.keys v lv).out z, (S.keyed.keys w o.0).out o.1)))
        w o.0 o.1 (omega arith)
