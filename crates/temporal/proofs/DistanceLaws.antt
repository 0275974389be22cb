-- The laws of what specs/DistanceLaws defines.
use Rattle.std.specs.Prelude.{◌≡◌, Bool, true, false, not, cond, List, ◌∷◌, T, ltb, ℤ, pos, negsuc, ◌≤ℤ◌}
use Rattle.std.proofs.Common.{sym, ap, ◌∙◌, subst, lt-ltb, le-ltb, ltb→lt, nltb→le}
use Prim.Native.Nat.{ℕ, zero, suc, ◌+◌, ◌-◌, ◌≤◌, ◌<◌}
use native.Mathlib.Omega.{arith}
use Rattle.std.proofs.Math.IntN.{sub_ℕ}
use Rattle.temporal.proofs.Lists.{All-map₂, All-at, length_tab, get_d_tab, All-tab}
use Rattle.temporal.specs.Lists.{tab}
use Rattle.temporal.specs.Bound.{AtMost, above, below}
use Rattle.temporal.proofs.Bound.{signed}
use Rattle.temporal.specs.Ticket.{Rule, Ticket, events, time, Schedule}
use Rattle.temporal.specs.Distance.{consistent, distance}
use Rattle.temporal.proofs.Distance.{consistent_has, distance_attained, distance_is, le_z_antisym}
use Rattle.temporal.specs.DistanceLaws.{IsTable, Points}

-- ---- differences of naturals

parts_by : (c d : ℕ) (t : Bool) → (T t → c < d) → (T (not t) → d ≤ c) → c + below (cond t (negsuc (d - suc c)) (pos (c - d))) ≡ d + above (cond t (negsuc (d - suc c)) (pos (c - d)))
unfolding above below
parts_by c d true lt ge = omega (arith, lt tt)
parts_by c d false lt ge = omega (arith, ge tt)

pub parts : (c d : ℕ) → c + below (sub_ℕ c d) ≡ d + above (sub_ℕ c d)
parts c d = parts_by c d (ltb c d) (λ t. ltb→lt c d t) (λ t. nltb→le c d t)

-- a minus b is at most c minus d
pub sub_le : (a b c d : ℕ) → a + d ≤ b + c → sub_ℕ a b ≤ℤ sub_ℕ c d
sub_le a b c d h = (signed b a (sub_ℕ c d)).1 (omega (arith, parts c d))

pub sub_eq : (a b c d : ℕ) → a + d ≡ b + c → sub_ℕ a b ≡ sub_ℕ c d
sub_eq a b c d h = le_z_antisym (sub_ℕ a b) (sub_ℕ c d) (sub_le a b c d (omega arith)).le (sub_le c d a b (omega arith)).le

pub sub-zero : (n : ℕ) → sub_ℕ n 0 ≡ pos n
sub-zero n = rw (le-ltb n 0 (omega arith)) (ap pos (omega arith))

pub zero_sub : (n : ℕ) → sub_ℕ 0 (suc n) ≡ negsuc n
zero_sub n = rw (lt-ltb 0 (suc n) (omega arith)) (ap negsuc (omega arith))

-- a signed number from its parts: it is a minus b
pub from_parts : (z : ℤ) (a b : ℕ) → a + below z ≡ b + above z → z ≡ sub_ℕ a b
unfolding above below
from_parts (pos n) a b h = sym (sub-zero n) ∙ sub_eq n 0 a b (omega arith)
from_parts (negsuc n) a b h = sym (zero_sub n) ∙ sub_eq 0 (suc n) a b (omega arith)

-- ---- the laws

pub inside : (k : Ticket) (ts : List ℕ) → Schedule k ts → (p : ℕ) → time ts p ≤ k.horizon
inside k ts s p = All-at (λ t. t ≤ k.horizon) 0 (omega arith) (0 ∷ ts) (omega arith, s.inside) p

pub distance_self : (k : Ticket) (i : ℕ) → T (consistent k) → distance k i i ≡ pos 0
distance_self k i t =
    let r = distance_attained k i i t in
    sym r.2 ∙ sub_eq (time r.0 i) (time r.0 i) 0 0 (omega arith)

pub distance_upper : (k : Ticket) (i j : ℕ) → T (consistent k) → distance k i j ≤ℤ pos k.horizon
distance_upper k i j t =
    let r = distance_attained k i j t in
    subst (λ d. d ≤ℤ pos k.horizon) r.2 ((signed (time r.0 i) (time r.0 j) (pos k.horizon)).1 (unfold above below in omega (arith, inside k r.0 r.1 j)))

pub distance_lower : (k : Ticket) (i j : ℕ) → T (consistent k) → sub_ℕ 0 k.horizon ≤ℤ distance k i j
distance_lower k i j t =
    let r = distance_attained k i j t in
    subst (λ d. sub_ℕ 0 k.horizon ≤ℤ d) r.2 (sub_le 0 k.horizon (time r.0 j) (time r.0 i) (omega (arith, inside k r.0 r.1 i)))

module _ (k : Ticket) (points : Points k) (base : ℕ) (d : ℕ → ℕ → ℕ) (h : IsTable k base d) where
  -- the schedule in which every point stands as late after i as it can
  latest : ℕ → List ℕ
  latest i = tab (events k) (λ q. d i (suc q) - d i 0)

  time_latest : (i p : ℕ) → p ≤ events k → time (latest i) p ≡ d i p - d i 0
  unfolding latest
  time_latest i zero l = omega arith
  time_latest i (suc q) l = get_d_tab (events k) (λ r. d i (suc r) - d i 0) 0 q l

  ahead : (i p : ℕ) → i ≤ events k → p ≤ events k → d i 0 ≤ d i p
  ahead i p li lp = omega (arith, h.triangle i 0 p li (omega arith) lp, h.lower p lp)

  latest_obeys : (i : ℕ) → i ≤ events k → (r : Rule) → (r.from ≤ events k) × (r.to ≤ events k) → d r.from r.to + below r.bound ≤ base + above r.bound
      → AtMost (time (latest i) r.from) (time (latest i) r.to) r.bound
  latest_obeys i li r lr g = (signed (time (latest i) r.from) (time (latest i) r.to) r.bound).1
      (omega (arith, time_latest i r.from lr.0, time_latest i r.to lr.1, ahead i r.from li lr.0, ahead i r.to li lr.1, h.triangle i r.to r.from li lr.1 lr.0))

  latest_schedule : (i : ℕ) → i ≤ events k → Schedule k (latest i)
  unfolding latest
  latest_schedule i li = record {
    count = length_tab (events k) (λ q. d i (suc q) - d i 0);
    inside = All-tab (λ t. t ≤ k.horizon) (events k) (λ q. d i (suc q) - d i 0) (λ q l. omega (arith, h.triangle i (suc q) 0 li l (omega arith), h.upper (suc q) l));
    obeys = All-map₂ (latest_obeys i li) k.rules points h.obeys;
  }

  pub table_consistent : T (consistent k)
  table_consistent = (consistent_has k).1 (latest 0, latest_schedule 0 (omega arith))

  -- such a table holds the distances
  pub table_distance : (i j : ℕ) → i ≤ events k → j ≤ events k → distance k i j ≡ sub_ℕ (d i j) base
  table_distance i j li lj = distance_is k i j (sub_ℕ (d i j) base) (latest i) (latest_schedule i li)
      (sub_eq (time (latest i) j) (time (latest i) i) (d i j) base
      (omega (arith, time_latest i j lj, time_latest i i li, ahead i j li lj, ahead i i li li, h.self i li)))
      (λ us s. sub_le (time us j) (time us i) (d i j) base (h.sound us s i j li lj))
