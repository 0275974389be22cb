-- The slack of an edge is what its demand leaves over; here is the least one of the edges in a node's list.
use Rattle.std.specs.Prelude.{ℕ, ◌+◌, ◌-◌, ◌≤◌, ◌<◌, min, ◌≡◌, List}
use Rattle.std.proofs.Common.{⊎_elim, arith, eq-or-lt_of_le}
use Rattle.std.proofs.Math.Logic.{by_cases}
use Rattle.std.proofs.Math.Decide.{dec_le}
use Rattle.network.specs.Stored.{at, tail_of, head_of, cost_of}
use Rattle.network.specs.Index.{end_of, Last, Listed, ListedFrom, Unlisted}

-- of an edge whose demand holds
abbrev pub slack_of : List ℕ → List ℕ → ℕ → ℕ
slack_of net pot e = at pot (tail_of net e) + cost_of net e - (at pot (head_of net e) + 1000000)

-- y is at most `most`, and no edge of node v from base on has less slack
abbrev pub Leaves : List ℕ → (m base side : ℕ) → List ℕ → (v most y : ℕ) → Type 0
Leaves net m base side pot v most y = (y ≤ most) × ((e : ℕ) → e < m → Listed net base side v e → y ≤ slack_of net pot e)

-- r is the greatest such number
pub record LeastSlack (net : List ℕ) (m base side : ℕ) (pot : List ℕ) (v most r : ℕ) : Type 0 where
  pub fits : Leaves net m base side pot v most r
  pub greatest : (y : ℕ) → Leaves net m base side pot v most y → y ≤ r

-- r is the greatest such number for the edges passed so far; those left in the list start at x
pub record Passed (net : List ℕ) (m base side : ℕ) (pot : List ℕ) (v most x r : ℕ) : Type 0 where
  pub next : Unlisted net m base side v x
  pub small : r ≤ most
  pub listed : (e : ℕ) → e < m → ListedFrom net base side v x e → r ≤ slack_of net pot e
  pub greatest : (y : ℕ) → Leaves net m base side pot v most y → y ≤ r

module _ {net : List ℕ} {m base side : ℕ} {pot : List ℕ} {v most : ℕ} where
  pub passed_none : {x : ℕ} → Last net base side v m x → Passed net m base side pot v most x most
  passed_none L = record {
    next = record { below = L.below; hit = L.hit };
    small = omega arith;
    listed = λ e le h. absurd (L.none e h.0 h.1 le h.2);
    greatest = λ y a. a.0;
  }

  module _ (e : ℕ) {r : ℕ} (P : Passed net m base side pot v most (e + 1) r) where
    -- the edge that is passed
    pub passed_edge : (e < m) × (base ≤ e) × (end_of net side e ≡ v)
    passed_edge =
        let same : e + 1 - 1 ≡ e = omega arith in
        let hit = P.next.hit (omega arith) in
        (omega (arith, P.next.below), omega (arith, hit.0), rw same at hit.1)

    pub passed_more : {x : ℕ} → Last net base side v e x → Passed net m base side pot v most x (min r (slack_of net pot e))
    passed_more L =
        let edge = passed_edge in
        record {
          next = record { below = omega (arith, edge.0, L.below); hit = L.hit };
          small = omega (arith, P.small);
          listed = λ d ld h. by_cases (dec_le (e + 1) d)
              (λ l. omega (arith, P.listed d ld (h.0, l, h.2)))
              (λ n. ⊎_elim
              (λ (q : d ≡ e). rw q (omega arith))
              (λ (l : d < e). absurd (L.none d h.0 h.1 l h.2))
              (eq-or-lt_of_le (omega arith)));
          greatest = λ y a. omega (arith, P.greatest y a, a.1 e edge.0 (edge.1, edge.2));
        }

    -- an edge with no slack: no number is less
    pub passed_zero : slack_of net pot e ≡ 0 → LeastSlack net m base side pot v most 0
    passed_zero z =
        let edge = passed_edge in
        record {
          fits = (omega arith, λ d ld h. omega arith);
          greatest = λ y a. omega (arith, a.1 e edge.0 (edge.1, edge.2), z);
        }

  pub passed_all : {r : ℕ} → Passed net m base side pot v most 0 r → LeastSlack net m base side pot v most r
  passed_all P = record { fits = (P.small, λ e le h. P.listed e le (h.0, omega arith, h.1)); greatest = P.greatest }
