-- How high a node can be while the others stay: as high as the edges that have it as their head allow.
use Rattle.std.specs.Prelude.{ℕ, ◌+◌, ◌*◌, ◌-◌, ◌≤◌, ◌<◌, ◌≡◌, List}
use Rattle.std.proofs.Common.{sym, ap, ◌∙◌, ⊎_elim, arith}
use Rattle.std.proofs.Math.Logic.{by_cases}
use Rattle.std.proofs.Math.Decide.{ℕ_discrete, dec_lt}
use Rattle.network.specs.Stored.{at, tail_of, head_of, cost_of, Network, Potential}
use Rattle.network.specs.Index.{box_edge}
use Rattle.edge.specs.Slack.{slack_of, LeastSlack}

-- with node v at x the demands of all edges into it hold; the tail of an edge from v to itself stays where it is, like the others
abbrev pub Under : List ℕ → ℕ → List ℕ → ℕ → ℕ → Type 0
Under net m pot v x = (e : ℕ) → e < m → head_of net e ≡ v → x + 1000000 ≤ at pot (tail_of net e) + cost_of net e

-- x is the highest that node v can be: no lower than it is, and at no y above x do the demands of all edges into it hold
pub record Height (net : List ℕ) (m : ℕ) (pot : List ℕ) (v x : ℕ) : Type 0 where
  pub up : at pot v ≤ x
  pub fits : Under net m pot v x
  pub most : (y : ℕ) → Under net m pot v y → y ≤ x

module _ {net : List ℕ} {m nodes : ℕ} {pot : List ℕ} {v : ℕ} (N : Network net m nodes) (P : Potential net m pot) (p : 0 < v) (lv : v < nodes) where
  -- the box edge into v
  pub up_edge : 2 * v - 1 < m
  up_edge = omega (arith, N.links v lv p)

  only : (e : ℕ) → head_of net e ≡ v → e < 2 * nodes - 2 → e ≡ 2 * v - 1
  only e q l =
      let x = box_edge N e l in
      ⊎_elim
      (λ (h : (head_of net e ≡ 0) × (tail_of net e ≡ x.0)). absurd (omega arith))
      (λ (h : (tail_of net e ≡ 0) × (head_of net e ≡ x.0)).
      let same : x.0 ≡ v = sym h.1 ∙ q in
      let place = x.2.place in
      by_cases (ℕ_discrete e (2 * v - 2))
      (λ low. absurd (omega (arith, ap (head_of net) low, (N.down v lv p).1)))
      (λ z. omega arith))
      x.2.ends

  pub slack_height : {r : ℕ} → LeastSlack net m (2 * nodes - 2) 1 pot v (slack_of net pot (2 * v - 1)) r → Height net m pot v (at pot v + r)
  slack_height {r} S = record {
    up = omega arith;
    fits = λ e le q. omega (arith, P.feasible e le, ap (at pot) q, below e le q);
    most = λ y a. omega (
      arith,
      S.greatest (y - at pot v) (
        omega (arith, a (2 * v - 1) up_edge (N.up v lv p).1, ap (at pot) (N.up v lv p).1),
        λ e le h. omega (arith, a e le h.1, ap (at pot) h.1),
      ),
    );
  }
    where
      below : (e : ℕ) → e < m → head_of net e ≡ v → r ≤ slack_of net pot e
      below e le q = by_cases (dec_lt e (2 * nodes - 2))
          (λ l. rw (only e q l) S.fits.0)
          (λ n. S.fits.1 e le (omega arith, q))
