-- The laws of what specs/Times defines.
use Rattle.std.specs.Prelude.{◌≡◌, refl, List, ℕ, zero, suc, T, ℤ, pos, negsuc, neg_ℤ, ◌≤ℤ◌}
use Rattle.std.proofs.Common.{sym, ap, ◌∙◌, subst, arith, le→leb}
use Rattle.std.proofs.Math.IntN.{sub_ℕ}
use Rattle.temporal.specs.Lists.{All}
use Rattle.temporal.proofs.Lists.{All-∈, ∈-All}
use Rattle.temporal.specs.Bound.{AtMost, above, below}
use Rattle.temporal.proofs.Bound.{signed}
use Rattle.temporal.specs.Ticket.{Rule, Ticket, time, Schedule}
use Rattle.temporal.specs.Distance.{consistent, distance}
use Rattle.temporal.proofs.Distance.{distance_attained, distance_most}
use Rattle.temporal.proofs.DistanceLaws.{sub-zero, zero_sub}
use Rattle.temporal.specs.Times.{Earliest, Latest}

-- ---- "how bounds are indexed (from i to j)"

-- in a schedule the time of j minus the time of i is at most c
pub rule_kept : (k : Ticket) (ts : List ℕ) → Schedule k ts → All (λ (r : Rule). sub_ℕ (time ts r.to) (time ts r.from) ≤ℤ r.bound) k.rules
rule_kept k ts s = s.obeys

-- so it bounds the distance from i to j
pub rule_distance : (k : Ticket) → T (consistent k) → All (λ (r : Rule). distance k r.from r.to ≤ℤ r.bound) k.rules
rule_distance k t = ∈-All k.rules (λ r m.
    let w = distance_attained k r.from r.to t in
    subst (λ d. d ≤ℤ r.bound) w.2
    (All-∈ (λ (q : Rule). sub_ℕ (time w.0 q.to) (time w.0 q.from) ≤ℤ q.bound) k.rules (rule_kept k w.0 w.1) m))

back_to_start : (t : ℕ) → neg_ℤ (sub_ℕ 0 t) ≡ pos t
back_to_start zero = refl
back_to_start (suc t) = ap neg_ℤ (zero_sub t)

-- 0 minus t is at most d: minus d is at most t
turned : (t : ℕ) (d : ℤ) → AtMost t 0 d → neg_ℤ d ≤ℤ pos t
unfolding above below
turned t (pos zero) h = record { le = le→leb 0 t (omega arith) }
turned t (pos (suc n)) h = record { le = tt }
turned t (negsuc n) h = record { le = le→leb (suc n) t (omega (arith, (signed t 0 (negsuc n)).0 h)) }

pub latest : (k : Ticket) (i : ℕ) → T (consistent k) → Latest k i (distance k 0 i)
latest k i t =
    let r = distance_attained k 0 i t in
    record {
      times = r.0;
      schedule = r.1;
      attained = sym (sub-zero (time r.0 i)) ∙ r.2;
      most = λ ts s. subst (λ z. z ≤ℤ distance k 0 i) (sub-zero (time ts i)) (distance_most k 0 i ts s);
    }

pub earliest : (k : Ticket) (i : ℕ) → T (consistent k) → Earliest k i (neg_ℤ (distance k i 0))
earliest k i t =
    let r = distance_attained k i 0 t in
    record {
      times = r.0;
      schedule = r.1;
      attained = sym (back_to_start (time r.0 i)) ∙ ap neg_ℤ r.2;
      least = λ ts s. turned (time ts i) (distance k i 0) (distance_most k i 0 ts s);
    }
