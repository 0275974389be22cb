-- How low a node can be while the others stay: as low as the edges that have it as their tail allow.
use Rattle.std.specs.Prelude.{ℕ, ◌+◌, ◌*◌, ◌-◌, ◌≤◌, ◌<◌, ◌≡◌, List}
use Rattle.std.proofs.Common.{sym, ap, ◌∙◌, ⊎_elim, arith}
use Rattle.std.proofs.Math.Logic.{by_cases}
use Rattle.std.proofs.Math.Decide.{ℕ_discrete, dec_lt}
use Rattle.network.specs.Stored.{at, tail_of, head_of, cost_of, Network, Potential}
use Rattle.network.specs.Index.{end_tail, box_edge}
use Rattle.edge.specs.Slack.{slack_of, LeastSlack}

-- with node v at x the demands of all edges out of it hold; the head of an edge from v to itself stays where it is, like the others
abbrev pub Over : List ℕ → ℕ → List ℕ → ℕ → ℕ → Type 0
Over net m pot v x = (e : ℕ) → e < m → tail_of net e ≡ v → at pot (head_of net e) + 1000000 ≤ x + cost_of net e

-- x is the lowest that node v can be: no higher than it is, and at no y below x do the demands of all edges out of it hold
pub record Depth (net : List ℕ) (m : ℕ) (pot : List ℕ) (v x : ℕ) : Type 0 where
  pub down : x ≤ at pot v
  pub fits : Over net m pot v x
  pub least : (y : ℕ) → Over net m pot v y → x ≤ y

module _ {net : List ℕ} {m nodes : ℕ} {pot : List ℕ} {v : ℕ} (N : Network net m nodes) (P : Potential net m pot) (p : 0 < v) (lv : v < nodes) where
  -- the box edge out of v
  pub down_edge : 2 * v - 2 < m
  down_edge = omega (arith, N.links v lv p)

  only : (e : ℕ) → tail_of net e ≡ v → e < 2 * nodes - 2 → e ≡ 2 * v - 2
  only e q l =
      let x = box_edge N e l in
      ⊎_elim
      (λ (h : (head_of net e ≡ 0) × (tail_of net e ≡ x.0)).
      let same : x.0 ≡ v = sym h.1 ∙ q in
      let place = x.2.place in
      by_cases (ℕ_discrete e (2 * v - 1))
      (λ high. absurd (omega (arith, ap (tail_of net) high, (N.up v lv p).0)))
      (λ z. omega arith))
      (λ (h : (tail_of net e ≡ 0) × (head_of net e ≡ x.0)). absurd (omega arith))
      x.2.ends

  module _ {r : ℕ} (S : LeastSlack net m (2 * nodes - 2) 0 pot v (slack_of net pot (2 * v - 2)) r) where
    -- the box keeps v from the numbers below 0
    pub slack_low : r ≤ at pot v
    slack_low = let d = N.down v lv p in omega (arith, S.fits.0, ap (at pot) d.0, d.2)

    below : (e : ℕ) → e < m → tail_of net e ≡ v → r ≤ slack_of net pot e
    below e le q = by_cases (dec_lt e (2 * nodes - 2))
        (λ l. rw (only e q l) S.fits.0)
        (λ n. S.fits.1 e le (omega arith, end_tail net e ∙ q))

    pub slack_depth : Depth net m pot v (at pot v - r)
    slack_depth = record {
      down = omega arith;
      fits = λ e le q. omega (arith, slack_low, P.feasible e le, ap (at pot) q, below e le q);
      least = λ y a. omega (
        arith,
        S.greatest (at pot v - y) (
          omega (arith, a (2 * v - 2) down_edge (N.down v lv p).0, ap (at pot) (N.down v lv p).0),
          λ e le h.
              let out : tail_of net e ≡ v = sym (end_tail net e) ∙ h.1 in
              omega (arith, a e le out, ap (at pot) out),
        ),
      );
    }
