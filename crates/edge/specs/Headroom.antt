-- How far all nodes but the origin can rise together: as far as the edges that have the origin as their tail allow.
use Rattle.std.specs.Prelude.{ℕ, ◌+◌, ◌*◌, ◌-◌, ◌≤◌, ◌<◌, min, ◌≡◌, List}
use Rattle.std.proofs.Common.{sym, ap, ◌∙◌, ⊎_elim, arith, eq-or-lt_of_le}
use Rattle.std.proofs.Math.Logic.{by_cases}
use Rattle.std.proofs.Math.Decide.{ℕ_discrete, dec_lt}
use Rattle.network.specs.Stored.{at, tail_of, head_of, cost_of, Network, Potential}
use Rattle.network.specs.Index.{end_tail, box_edge}
use Rattle.edge.specs.Slack.{slack_of, LeastSlack}

-- if edge e is from the origin, its head can rise by r while the origin stays
abbrev pub Room : List ℕ → List ℕ → ℕ → ℕ → Type 0
Room net pot r e = at pot (head_of net e) + 1000000 + r ≤ at pot 0 + cost_of net e

-- all nodes but the origin can rise by r: edges between them keep their slack; an edge from the origin to itself counts like the others
abbrev pub Rise : List ℕ → ℕ → List ℕ → ℕ → Type 0
Rise net m pot r = (e : ℕ) → e < m → tail_of net e ≡ 0 → Room net pot r e

-- r is the most, up to 1000000, by which all nodes but the origin can rise
pub record Headroom (net : List ℕ) (m : ℕ) (pot : List ℕ) (r : ℕ) : Type 0 where
  pub small : r ≤ 1000000
  pub fits : Rise net m pot r
  pub most : (s : ℕ) → s ≤ 1000000 → Rise net m pot s → s ≤ r

-- the boxes of the nodes below v let them rise by r
abbrev pub BoxRise : List ℕ → List ℕ → ℕ → ℕ → Type 0
BoxRise net pot v r = (u : ℕ) → 0 < u → u < v → Room net pot r (2 * u - 1)

-- r is the most, up to 1000000, by which the boxes of the nodes below v let them rise
pub record BoxRoom (net pot : List ℕ) (v r : ℕ) : Type 0 where
  pub small : r ≤ 1000000
  pub fits : BoxRise net pot v r
  pub most : (s : ℕ) → s ≤ 1000000 → BoxRise net pot v s → s ≤ r

pub box_room_none : (net pot : List ℕ) → BoxRoom net pot 1 1000000
box_room_none net pot = record { small = omega arith; fits = λ u p l. absurd (omega arith); most = λ s l a. l }

module _ {net : List ℕ} {m nodes : ℕ} {pot : List ℕ} (N : Network net m nodes) (P : Potential net m pot) where
  box_edge_from : (v : ℕ) → 0 < v → v < nodes → (2 * v - 1 < m) × (tail_of net (2 * v - 1) ≡ 0)
  box_edge_from v p lv = (omega (arith, N.links v lv p), (N.up v lv p).0)

  -- what an edge from the origin leaves its head
  room_slack : (e : ℕ) → e < m → tail_of net e ≡ 0 → (s : ℕ) → s ≤ slack_of net pot e → Room net pot s e
  room_slack e le q s l = omega (arith, P.feasible e le, ap (at pot) q, l)

  slack_room : (e : ℕ) → tail_of net e ≡ 0 → (s : ℕ) → Room net pot s e → s ≤ slack_of net pot e
  slack_room e q s r = omega (arith, ap (at pot) q, r)

  pub box_room_more : {v r : ℕ} → BoxRoom net pot v r → 0 < v → v < nodes
      → BoxRoom net pot (v + 1) (min r (slack_of net pot (2 * v - 1)))
  box_room_more {v} {r} B p lv =
      let e = box_edge_from v p lv in
      record {
        small = omega (arith, B.small);
        fits = λ u pu lu. ⊎_elim
            (λ (q : u ≡ v). rw q (room_slack (2 * v - 1) e.0 e.1 (min r (slack_of net pot (2 * v - 1))) (omega arith)))
            (λ (l : u < v). omega (arith, B.fits u pu l))
            (eq-or-lt_of_le (omega arith));
        most = λ s l a. omega (arith, B.most s l (λ u pu lu. a u pu (omega arith)), slack_room (2 * v - 1) e.1 s (a v p (omega arith)));
      }

  -- the boxes, and the other edges from the origin
  pub slack_headroom : {room r : ℕ} → BoxRoom net pot nodes room → LeastSlack net m (2 * nodes - 2) 0 pot 0 room r → Headroom net m pot r
  slack_headroom {room} {r} B S = record {
    small = omega (arith, S.fits.0, B.small);
    fits = λ e le q. by_cases (dec_lt e (2 * nodes - 2))
        (λ l. boxed e q l)
        (λ n. room_slack e le q r (S.fits.1 e le (omega arith, end_tail net e ∙ q)));
    most = λ s l a. S.greatest s (
      B.most s l (λ u p lu. let e = box_edge_from u p lu in a (2 * u - 1) e.0 e.1),
      λ e le h.
          let out : tail_of net e ≡ 0 = sym (end_tail net e) ∙ h.1 in
          slack_room e out s (a e le out),
    );
  }
    where
      boxed : (e : ℕ) → tail_of net e ≡ 0 → e < 2 * nodes - 2 → Room net pot r e
      boxed e q l =
          let x = box_edge N e l in
          let v = x.0 in
          ⊎_elim
          (λ (h : (head_of net e ≡ 0) × (tail_of net e ≡ x.0)). absurd (omega (arith, x.2.node)))
          (λ (h : (tail_of net e ≡ 0) × (head_of net e ≡ x.0)).
          let place = x.2.place in
          by_cases (ℕ_discrete e (2 * v - 1))
          (λ z. rw z (omega (arith, B.fits v x.2.node x.1, S.fits.0)))
          (λ z.
          let low : e ≡ 2 * v - 2 = omega arith in
          absurd (omega (arith, x.2.node, ap (tail_of net) low, (N.down v x.1 x.2.node).0))))
          x.2.ends
