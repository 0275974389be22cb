-- The table of one root q: 42 rows of 41 numbers, row r and column p the least cost of a walk of exactly r rules from point p to q. A row follows from the
-- one before it by one round over the rules. Rests on rings' Costs.
use Rattle.std.specs.Prelude.{◌≡◌, refl, List, ◌≢◌, ℕ, zero, suc, ◌+◌, ◌*◌, ◌-◌, ◌≤◌, ◌<◌, min, length, set, replicate}
use Rattle.std.proofs.Common.{subst, sym, ap, ◌∙◌, add-one, arith}
use Rattle.std.proofs.Math.Decide.{ℕ_discrete}
use Rattle.std.proofs.Math.ListN.{get_or, length-set}
use Rattle.std.proofs.Math.Seq.{get_or-set_same, get_or-set_other}
use Rattle.temporal.specs.Ticket.{Ticket}
use Rattle.paths.specs.Rules.{from_of, to_of}
use Rattle.rings.specs.Costs.{top, cost, via, walks}
use Rattle.rings.proofs.Costs.{via_here, via_there, walks_here, walks_there, walks_more}
use Rattle.ring.specs.declared.rules.Rules.{Rules}
use Rattle.ring.specs.Places.{rule, Whole, to_point}

-- row r, column p
abbrev pub cell : List ℕ → ℕ → ℕ → ℕ
cell w r p = get_or w (41 * r + p) 0

-- rows 0 to r hold the least costs of the walks to q, and the rows behind them "no walk"
pub record WalkTable (rs : Rules) (q r : ℕ) (w : List ℕ) : Type 0 where
  pub long : length w ≡ 1722
  pub clear : (i : ℕ) → 41 * r + 41 ≤ i → i < 1722 → get_or w i 0 ≡ 1000000000
  pub is : (k : Ticket) → Whole k rs → (i p : ℕ) → i ≤ r → p ≤ 40 → cell w i p ≡ walks k q i p

-- the round behind row r, after the first e rules
pub record Round (rs : Rules) (r e : ℕ) (before after : List ℕ) : Type 0 where
  pub long : length after ≡ 1722
  pub same : (i : ℕ) → i < 41 * r + 41 → get_or after i 0 ≡ get_or before i 0
  pub later : (i : ℕ) → 41 * r + 82 ≤ i → get_or after i 0 ≡ get_or before i 0
  pub row : (k : Ticket) → Whole k rs → (p : ℕ) → p ≤ 40 → cell after (r + 1) p ≡ via k (cell before r) p e

-- a table whose row behind r is clear
pub record Ready (r : ℕ) (w : List ℕ) : Type 0 where
  pub long : length w ≡ 1722
  pub clear : (p : ℕ) → p ≤ 40 → cell w (r + 1) p ≡ 1000000000

-- ---- one round

pub round_none : {rs : Rules} {r : ℕ} {w : List ℕ} → Ready r w → Round rs r 0 w w
unfolding via top
round_none h = record { long = h.long; same = λ i l. refl; later = λ i l. refl; row = λ k a p l. h.clear p l }

module _ {rs : Rules} {r e : ℕ} {before w : List ℕ} (lr : r ≤ 40) (le : e < rs.count) (h : Round rs r e before w) where
  -- the place that the rule lowers, and what it is lowered to
  spot : ℕ
  spot = 41 * (r + 1) + (rule rs (e + 1)).from

  now : ℕ
  now = min (get_or w spot 0) ((rule rs (e + 1)).cost + get_or w (41 * r + (rule rs (e + 1)).to) 0)

  inside : spot < length w
  unfolding spot
  inside = omega (arith, rs.small.from_most (e + 1), h.long)

  round_more : Round rs r (e + 1) before
      (set w (41 * (r + 1) + (rule rs (e + 1)).from) (min (get_or w (41 * (r + 1) + (rule rs (e + 1)).from) 0) ((rule rs (e + 1)).cost + get_or w (41 * r + (rule rs (e + 1)).to) 0)))
  unfolding spot now
  round_more = record {
    long = length-set w spot now ∙ h.long;
    same = λ i l. get_or-set_other w spot i now 0 (λ (q : i ≡ spot). omega arith) ∙ h.same i l;
    later = λ i l. get_or-set_other w spot i now 0 (λ (q : i ≡ spot). omega (arith, rs.small.from_most (e + 1))) ∙ h.later i l;
    row = λ k a p l. row k a p l (ℕ_discrete (from_of k (suc e)) p);
  }
    where
      row : (k : Ticket) → Whole k rs → (p : ℕ) → p ≤ 40 → Dec (from_of k (suc e) ≡ p)
          → cell (set w spot now) (r + 1) p ≡ via k (cell before r) p (e + 1)
      row k a p l (yes q) =
          let f = a.filled.from_is (e + 1) (omega arith) (omega arith) in
          let t = a.filled.to_is (e + 1) (omega arith) (omega arith) in
          let c = a.filled.cost_is (e + 1) (omega arith) (omega arith) in
          let one : e + 1 ≡ suc e = add-one e in
          let here : 41 * (r + 1) + p ≡ spot = omega (arith, f, ap (from_of k) one) in
          let x : get_or w spot 0 ≡ via k (cell before r) p e = ap (λ y. get_or w y 0) (sym here) ∙ h.row k a p l in
          let y : get_or w (41 * r + (rule rs (e + 1)).to) 0 ≡ cell before r (to_of k (suc e)) =
          h.same (41 * r + (rule rs (e + 1)).to) (omega (arith, rs.small.to_most (e + 1))) ∙ ap (cell before r) (t ∙ ap (to_of k) one) in
          let z : (rule rs (e + 1)).cost ≡ cost k (suc e) = c ∙ ap (cost k) one in
          ap (λ i. get_or (set w spot now) i 0) here ∙ get_or-set_same w spot now 0 inside
          ∙ omega (arith, x, y, z, via_here k (cell before r) p e q) ∙ ap (via k (cell before r) p) (sym one)
      row k a p l (no n) =
          let f = a.filled.from_is (e + 1) (omega arith) (omega arith) in
          let one : e + 1 ≡ suc e = add-one e in
          let other : 41 * (r + 1) + p ≢ spot = λ (q : 41 * (r + 1) + p ≡ spot). n (omega (arith, f, ap (from_of k) one)) in
          get_or-set_other w spot (41 * (r + 1) + p) now 0 other ∙ h.row k a p l ∙ sym (via_there k (cell before r) p e n)
          ∙ ap (via k (cell before r) p) (sym one)

-- the same by the number of the rule
pub round_next : {rs : Rules} {r e : ℕ} {before w : List ℕ} → r ≤ 40 → 1 ≤ e → e ≤ rs.count → Round rs r (e - 1) before w
    → Round rs r e before (set w (41 * (r + 1) + (rule rs e).from) (min (cell w (r + 1) (rule rs e).from) ((rule rs e).cost + cell w r (rule rs e).to)))
round_next {rs} {r} {e} {before} {w} l a b h =
    let q : e - 1 + 1 ≡ e = omega arith in
    subst (λ x. Round rs r x before (set w (41 * (r + 1) + (rule rs x).from) (min (get_or w (41 * (r + 1) + (rule rs x).from) 0) ((rule rs x).cost + get_or w (41 * r + (rule rs x).to) 0))))
    q (round_more l (omega arith) h)

-- ---- row by row

via_same : (k : Ticket) (f g : ℕ → ℕ) (p e : ℕ) → ((x : ℕ) → f (to_of k x) ≡ g (to_of k x)) → via k f p e ≡ via k g p e
unfolding via
via_same k f g p zero h = refl
via_same k f g p (suc e) h = rw (via_same k f g p e h, h (suc e)) refl

pub table_more : {rs : Rules} {q r : ℕ} {before after : List ℕ} → WalkTable rs q r before → Round rs r rs.count before after
    → WalkTable rs q (r + 1) after
table_more {rs} {q} {r} {before} {after} h g = record {
  long = g.long;
  clear = λ i a b. g.later i (omega arith) ∙ h.clear i (omega arith) b;
  is = λ k a i p l b. row k a i p l b (ℕ_discrete i (r + 1));
}
  where
    row : (k : Ticket) → Whole k rs → (i p : ℕ) → i ≤ r + 1 → p ≤ 40 → Dec (i ≡ r + 1) → cell after i p ≡ walks k q i p
    row k a i p l b (yes e) =
        rw e (g.row k a p b ∙ via_same k (cell before r) (walks k q r) p rs.count (λ x. h.is k a r (to_of k x) (omega arith) (to_point k a.valid x))
        ∙ ap (via k (walks k q r) p) (sym a.count) ∙ sym (walks_more k q r p) ∙ ap (λ y. walks k q y p) (sym (add-one r)))
    row k a i p l b (no n) = g.same (41 * i + p) (omega arith) ∙ h.is k a i p (omega arith) b

-- no rules: 0 at q, and no walk from elsewhere
pub table_none : {rs : Rules} (q place lowered : ℕ) (w : List ℕ) → q ≤ 40 → place ≡ q → lowered ≡ 0 → length w ≡ 1722
    → ((i : ℕ) → i < 1722 → get_or w i 0 ≡ 1000000000) → WalkTable rs q 0 (set w place lowered)
unfolding top
table_none q place lowered w l a b n h = rw (a, b) (record {
  long = length-set w q 0 ∙ n;
  clear = λ i a s. get_or-set_other w q i 0 0 (λ (e : i ≡ q). omega arith) ∙ h i s;
  is = λ k a i p li lp. row k i p li lp (ℕ_discrete p q);
})
  where
    inside : q < length w
    inside = omega arith

    row : (k : Ticket) (i p : ℕ) → i ≤ 0 → p ≤ 40 → Dec (p ≡ q) → cell (set w q 0) i p ≡ walks k q i p
    row k i p li lp (yes e) =
        let z : i ≡ 0 = omega arith in
        let at : 41 * 0 + q ≡ q = omega arith in
        rw (z, e, at) (get_or-set_same w q 0 0 inside ∙ sym (walks_here k q))
    row k i p li lp (no e) =
        let z : i ≡ 0 = omega arith in
        let at : 41 * 0 + p ≡ p = omega arith in
        rw (z, at) (get_or-set_other w q p 0 0 e ∙ h p (omega arith) ∙ sym (walks_there k q p e))

pub replicate_most : (n x i : ℕ) → get_or (replicate n x) i 0 ≤ x
replicate_most zero x i = omega arith
replicate_most (suc n) x zero = omega arith
replicate_most (suc n) x (suc i) = replicate_most n x i
