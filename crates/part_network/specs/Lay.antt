-- Rules stored as edges of a window network, one after the other. Rests on `network` for stored edges and on `closure` for the entries.
use Rattle.std.specs.Prelude.{◌≡◌, List, [], ◌∷◌, ◌++◌, ℕ, zero, suc, ◌+◌, ◌*◌, ◌-◌, ◌≤◌, ◌<◌, ℤ, length, get_or}
use Rattle.std.proofs.Common.{subst, sym, ap, ◌∙◌, ⊎_elim, arith, length-append, get_or-append-add}
use Rattle.std.proofs.Math.ListN.{get_or-append}
use Rattle.temporal.proofs.Lists.{below_or_not}
use Rattle.temporal.specs.Bound.{biased}
use Rattle.temporal.proofs.DistanceLaws.{parts}
use Rattle.temporal.specs.Ticket.{Rule}
use Rattle.network.specs.Stored.{at}
use Rattle.network.specs.Edges.{EdgeIs, Extends, extends_none, extends_trans, extends_edge, Put}
use Rattle.potentials.specs.Arrays.{no_rule}
use Rattle.potentials.specs.Nodes.{close_node}
use Rattle.closure.specs.Signed.{bias, lower}
use Rattle.closure.specs.Matrix.{entry}
use Rattle.parts.specs.Part.{joined}
use Rattle.parts.proofs.AllRules.{joined_more}

-- the bound from the part's point i to its point j: the entry between the ticket's points at which these stand
abbrev pub bound_in : (points w : List ℕ) → ℕ → ℕ → ℤ
bound_in points w i j = lower (entry w (at points i) (at points j))

-- points of the ticket, and entries between them that an edge can hold
pub record Ranged (n : ℕ) (points w : List ℕ) : Type 0 where
  pub point : (q : ℕ) → q ≤ n → at points q ≤ 40
  pub low : (i j : ℕ) → i ≤ n → j ≤ n → 1000000 ≤ entry w (at points i) (at points j)
  pub high : (i j : ℕ) → i ≤ n → j ≤ n → entry w (at points i) (at points j) ≤ 3000000

pub biased_lower : (x : ℕ) → 1000000 ≤ x → x - 1000000 ≡ biased (lower x)
unfolding biased
biased_lower x l = omega (arith, parts x bias)

-- rule r of n events as edge e
abbrev pub RuleIs : List ℕ → ℕ → ℕ → Rule → Type 0
RuleIs net n e r = EdgeIs net e r.from (close_node n r.to) (biased r.bound)

-- the rules rs as the edges from e on, and what stands before them as it was; `next` is the edge after them
pub record Lays (net net' : List ℕ) (n e : ℕ) (rs : List Rule) (next : ℕ) : Type 0 where
  pub counted : next ≡ e + length rs
  pub extends : Extends net net' e
  pub edges : (j : ℕ) → j < length rs → RuleIs net' n (e + j) (get_or rs j no_rule)

pub lays_none : (net : List ℕ) (n e : ℕ) → Lays net net n e [] e
lays_none net n e = record { counted = omega arith; extends = extends_none net e; edges = λ j l. absurd (omega arith) }

pub lays_one : {net net' : List ℕ} {n e : ℕ} (r : Rule) → Put net net' e r.from (close_node n r.to) (biased r.bound) → Lays net net' n e (r ∷ []) (e + 1)
lays_one {net} {net'} {n} {e} r P = record {
  counted = omega arith;
  extends = P.extends;
  edges = λ j l. at_first j l;
}
  where
    at_first : (j : ℕ) → j < 1 → RuleIs net' n (e + j) (get_or (r ∷ []) j no_rule)
    at_first zero l = let q : e + 0 ≡ e = omega arith in rw q P.edge
    at_first (suc j) l = absurd (omega arith)

lays_then : {a b c : List ℕ} {n e next last : ℕ} (rs qs : List Rule) → Lays a b n e rs next → Lays b c n next qs last → Lays a c n e (rs ++ qs) last
lays_then {a} {b} {c} {n} {e} {next} {last} rs qs A B = record {
  counted = omega (arith, A.counted, B.counted, length-append rs qs);
  extends = extends_trans (omega (arith, A.counted)) A.extends B.extends;
  edges = λ j l. ⊎_elim
      (λ (h : j < length rs). rw (get_or-append rs qs no_rule j h) (extends_edge B.extends (omega (arith, A.counted)) (A.edges j h)))
      (λ (h : length rs ≤ j).
      let q : next + (j - length rs) ≡ e + j = omega (arith, A.counted) in
      let s : length rs + (j - length rs) ≡ j = omega arith in
      rw (← q) (subst (λ (r : Rule). RuleIs c n (next + (j - length rs)) r)
      (sym (get_or-append-add rs qs (j - length rs) no_rule) ∙ ap (λ i. get_or (rs ++ qs) i no_rule) s)
      (B.edges (j - length rs) (omega (arith, length-append rs qs)))))
      (below_or_not j (length rs));
}

pub lays_same : {net net' : List ℕ} {n e next : ℕ} {rs qs : List Rule} → rs ≡ qs → Lays net net' n e rs next → Lays net net' n e qs next
lays_same {net} {net'} {n} {e} {next} q L = subst (λ xs. Lays net net' n e xs next) q L

-- one of the joined lists more
pub lays_more : {a b c : List ℕ} {n e next last j : ℕ} (f : ℕ → List Rule) → Lays a b n e (joined j f) next → Lays b c n next (f j) last → Lays a c n e (joined (j + 1) f) last
lays_more {a} {b} {c} {n} {e} {next} {last} {j} f A B =
    subst (λ xs. Lays a c n e xs last) (sym (joined_more j f)) (lays_then (joined j f) (f j) A B)

pub lays_start : (net : List ℕ) (n e : ℕ) (f : ℕ → List Rule) → Lays net net n e (joined 0 f) e
unfolding joined
lays_start net n e f = lays_none net n e

-- the time of the part's event i + 1 as the code reads it
pub earliest_at : (points w : List ℕ) (i : ℕ) → 2000000 - at w (41 * at points (i + 1)) ≡ 2000000 - entry w (at points (suc i)) 0
earliest_at points w i =
    let p : i + 1 ≡ suc i = omega arith in
    let q : 41 * at points (suc i) ≡ 41 * at points (suc i) + 0 = omega arith in
    rw p (ap (λ k. 2000000 - at w k) q)
