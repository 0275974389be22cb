-- The laws of what specs/Loops defines.
use Rattle.std.specs.Prelude.{◌≡◌, List, [], ◌∷◌, ◌++◌, ◌↔◌, ℕ, ◌+◌, ◌≤◌, ◌<◌, ℤ, pos, negsuc, ◌<ℤ◌, length}
use Rattle.std.proofs.Common.{sym, subst, arith, ltb→lt, lt→ltb, length-append}
use Rattle.temporal.proofs.Lists.{All-join, All-parts}
use Rattle.temporal.specs.Bound.{above, below}
use Rattle.temporal.specs.Ticket.{Ticket}
use Rattle.paths.specs.Rules.{Number, Walk, sum}
use Rattle.paths.proofs.Walks.{walk_join, walk_cut, ups_join, downs_join, sum_parts}
use Rattle.paths.specs.Walks.{ups, downs}
use Rattle.rings.specs.Turns.{Turn}
use Rattle.rings.specs.Ring.{start_of, Ring}
use Rattle.rings.specs.Loops.{Loop}

negative_by : (z : ℤ) (u d : ℕ) → above z + d ≡ below z + u → (z <ℤ pos 0) ↔ (u < d)
unfolding above below
negative_by (pos n) u d e = (λ h. absurd (omega (arith, ltb→lt n 0 h.lt)), λ h. record { lt = lt→ltb n 0 (omega arith) })
negative_by (negsuc n) u d e = (λ h. omega arith, λ h. record { lt = tt })

-- the bounds sum below zero
pub negative_iff : (k : Ticket) (es : List ℕ) → (sum k es <ℤ pos 0) ↔ (ups k es < downs k es)
negative_iff k es = negative_by (sum k es) (ups k es) (downs k es) (sum_parts k es)

pub ring_loop : (k : Ticket) (es : List ℕ) → Ring k es → Loop k (start_of k es) es
ring_loop k es r = record { some = r.some; numbers = r.numbers; closed = r.closed; negative = (negative_iff k es).0 r.negative }

-- a closed walk starts where its first rule goes from
pub walk_start : (k : Ticket) (p : ℕ) (es : List ℕ) → 1 ≤ length es → Walk k p es p → p ≡ start_of k es
walk_start k p [] l h = absurd (omega arith)
walk_start k p (e ∷ es) l h = h.0

pub loop_ring : (k : Ticket) (p : ℕ) (es : List ℕ) → Loop k p es → Ring k es
loop_ring k p es l = record {
  some = l.some;
  numbers = l.numbers;
  closed = subst (λ x. Walk k x es x) (walk_start k p es l.some l.closed) l.closed;
  negative = (negative_iff k es).1 l.negative;
}

-- a ring from another rule on
turned : (k : Ticket) (a b : List ℕ) → Ring k (a ++ b) → Ring k (b ++ a)
turned k a b r =
    let l = ring_loop k (a ++ b) r in
    let w = walk_cut k a b (start_of k (a ++ b)) (start_of k (a ++ b)) l.closed in
    let n = All-parts (Number k) a b l.numbers in
    loop_ring k w.0 (b ++ a) (record {
      some = omega (arith, l.some, length-append a b, length-append b a);
      numbers = All-join (Number k) b a n.1 n.0;
      closed = walk_join k b a w.0 (start_of k (a ++ b)) w.0 w.2 w.1;
      negative = omega (arith, l.negative, ups_join k a b, ups_join k b a, downs_join k a b, downs_join k b a);
    })

pub ring_turn : (k : Ticket) (es fs : List ℕ) → Turn es fs → Ring k es → Ring k fs
ring_turn k es fs t r = subst (Ring k) (sym t.3) (turned k t.0 t.1 (subst (Ring k) t.2 r))
