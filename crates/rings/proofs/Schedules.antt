-- A ticket has a ring or a schedule, and never both: `ring_iff`. A ring refutes every schedule, since around it the times cancel. Without a ring a
-- schedule is found by lowering: every event starts at the horizon, and a rule that does not hold lowers the event that it goes to until it does.
-- Each tick stays the sum of a walk from 0, so one that would fall below 0 shows a ring.
use Rattle.std.specs.Prelude.{◌≡◌, ◌↔◌, ◌⊎◌, T, pos, length, get_or, set, replicate}
use Rattle.std.proofs.Math.Path.{refl}
use Rattle.std.proofs.Common.{sym, ap, ◌∙◌, subst, length-set, get_or-set_same, get_or-set_other}
use mathlib.Core.List.{List, [], ◌∷◌, ◌++◌}
use Rattle.std.proofs.Math.Logic.{inl, inr, ⊎_elim}
use Prim.Native.Nat.{ℕ, zero, suc, ◌+◌, ◌*◌, ◌-◌, ◌≤◌, ◌<◌}
use Rattle.std.proofs.Math.Decide.{ℕ_discrete}
use native.Mathlib.Omega.{arith}
use Rattle.std.proofs.Math.ListN.{length-append}
use Rattle.std.proofs.lemmas.List.{length-replicate, get_or-replicate}
use Rattle.temporal.specs.Lists.{All}
use Rattle.temporal.proofs.Lists.{All-map, All-at, All-join, below_or_not}
use Rattle.temporal.specs.Bound.{above, below}
use Rattle.temporal.proofs.Bound.{signed}
use Rattle.temporal.specs.Ticket.{Rule, Ticket, events, time, Schedule}
use Rattle.temporal.specs.Distance.{consistent}
use Rattle.temporal.proofs.Distance.{consistent_has}
use Rattle.temporal.specs.DistanceLaws.{Points}
use Rattle.paths.specs.Rules.{back, out, rule_at, from_of, to_of, bound_of, Number, Walk}
use Rattle.paths.proofs.Walks.{walk_join, ups_join, downs_join, schedule_walk, rule_points, rule_written, rule_back, rule_out}
use Rattle.paths.specs.Walks.{ups, downs}
use Rattle.rings.specs.Ring.{start_of, Ring}
use Rattle.rings.specs.Loops.{Loop}
use Rattle.rings.proofs.Loops.{ring_loop, loop_ring}
use Rattle.rings.proofs.Shorten.{short_ring}

-- ---- a ring shows that there is no schedule

pub ring_refutes : (k : Ticket) (es : List ℕ) → Ring k es → (ts : List ℕ) → ¬ Schedule k ts
ring_refutes k es r ts s =
    let l = ring_loop k es r in
    omega (arith, l.negative, schedule_walk k ts s (start_of k es) es (start_of k es) l.closed)

-- ---- lowering

-- a rule holds at some times, or it fails, without signs
abbrev Holds : List ℕ → Rule → Type 0
Holds ts r = time ts r.to + below r.bound ≤ time ts r.from + above r.bound

abbrev Fails : List ℕ → Rule → Type 0
Fails ts r = time ts r.from + above r.bound < time ts r.to + below r.bound

-- the sum of some numbers
total : List ℕ → ℕ
total [] = 0
total (t ∷ ts) = t + total ts

total_set : (ts : List ℕ) (j v : ℕ) → v < get_or ts j 0 → total (set ts j v) < total ts
unfolding total
total_set [] j v l = absurd (omega arith)
total_set (t ∷ ts) zero v l = omega arith
total_set (t ∷ ts) (suc j) v l = omega (arith, total_set ts j v l)

All-set : (P : ℕ → Type 0) (ts : List ℕ) (j v : ℕ) → All P ts → P v → All P (set ts j v)
All-set P [] j v h p = tt
All-set P (t ∷ ts) zero v h p = (p, h.1)
All-set P (t ∷ ts) (suc j) v h p = (h.0, All-set P ts j v h.1 p)

-- the place of a rule that fails
abbrev Failing : List ℕ → List Rule → Type 0
Failing ts rs = (i : ℕ) × (i < length rs) × Fails ts (get_or rs i (back 0))

failing : (ts : List ℕ) (rs : List Rule) → All (Holds ts) rs ⊎ Failing ts rs
failing ts [] = inl tt
failing ts (r ∷ rs) = step (failing ts rs) (below_or_not (time ts r.from + above r.bound) (time ts r.to + below r.bound))
  where
    step : All (Holds ts) rs ⊎ Failing ts rs → Fails ts r ⊎ Holds ts r → All (Holds ts) (r ∷ rs) ⊎ Failing ts (r ∷ rs)
    step v (inl f) = inr (0, omega arith, f)
    step (inl a) (inr h) = inl (h, a)
    step (inr v) (inr h) = inr (suc v.0, omega (arith, v.1), v.2)

-- a walk along rules from p to q whose bounds sum to t
record Reach (k : Ticket) (p q t : ℕ) : Type 0 where
  rules : List ℕ
  numbers : All (Number k) rules
  walk : Walk k p rules q
  sums : ups k rules ≡ t + downs k rules

-- the walk of one rule
alone : (k : Ticket) (e : ℕ) (r : Rule) (t : ℕ) → Number k e → rule_at k e ≡ r → r.bound ≡ pos t → Reach k r.from r.to t
unfolding ups downs above below
alone k e r t n q b = record {
  rules = e ∷ [];
  numbers = (n, tt);
  walk = (ap (λ (x : Rule). x.from) (sym q), ap (λ (x : Rule). x.to) q);
  sums = omega (arith, ap (λ (x : Rule). above x.bound) q, ap (λ (x : Rule). below x.bound) q, ap above b, ap below b);
}

module _ (k : Ticket) (points : Points k) where
  -- home from a point, by i to 0: 0
  home : (p : ℕ) → p ≤ events k → Reach k p 0 0
  unfolding ups downs
  home zero l = record { rules = []; numbers = tt; walk = refl; sums = refl }
  home (suc i) l = alone k (length k.rules + 2 * suc i - 1) (back (suc i)) 0 (omega arith, omega arith) (rule_back k (suc i) (omega arith) l) refl

  -- away from 0, by 0 to i: H
  away : (i : ℕ) → i < events k → Reach k 0 (suc i) k.horizon
  away i l = alone k (length k.rules + 2 * suc i) (out k.horizon (suc i)) k.horizon (omega arith, omega arith) (rule_out k (suc i) (omega arith) l) refl

  -- ticks of the events, each at most the horizon and the sum of a walk from 0
  record Reached (ts : List ℕ) : Type 0 where
    count : length ts ≡ events k
    inside : All (λ t. t ≤ k.horizon) ts
    reach : (p : ℕ) → p ≤ events k → Reach k 0 p (time ts p)

  -- every event at the horizon
  highest : Reached (replicate (events k) k.horizon)
  highest = record { count = length-replicate (events k) k.horizon; inside = all (events k); reach = λ p. at p }
    where
      all : (n : ℕ) → All (λ t. t ≤ k.horizon) (replicate n k.horizon)
      all zero = tt
      all (suc n) = (omega arith, all n)

      at : (p : ℕ) → p ≤ events k → Reach k 0 p (time (replicate (events k) k.horizon) p)
      at zero l = home zero l
      at (suc i) l = rw (get_or-replicate (events k) i k.horizon 0 l) (away i l)

  -- a tick that would fall below 0 shows a ring
  closes : (ts : List ℕ) → Reached ts → (e : ℕ) → Number k e → time ts (from_of k e) + above (bound_of k e) < below (bound_of k e) → (es : List ℕ) × Ring k es
  unfolding ups downs
  closes ts r e n h =
      let a = r.reach (from_of k e) (rule_points k points e).0 in
      let b = home (to_of k e) (rule_points k points e).1 in
      let es : List ℕ = a.rules ++ (e ∷ b.rules) in
      let loop : Loop k 0 es = record {
        some = omega (arith, length-append a.rules (e ∷ b.rules));
        numbers = All-join (Number k) a.rules (e ∷ b.rules) a.numbers (n, b.numbers);
        closed = walk_join k a.rules (e ∷ b.rules) 0 (from_of k e) 0 a.walk (refl, b.walk);
        negative = omega (arith, h, ups_join k a.rules (e ∷ b.rules), downs_join k a.rules (e ∷ b.rules), a.sums, b.sums);
      } in
      (es, loop_ring k 0 es loop)

  -- one rule more
  longer : (s t e : ℕ) → Reach k 0 (from_of k e) s → Number k e → s + above (bound_of k e) ≡ t + below (bound_of k e) → Reach k 0 (to_of k e) t
  unfolding ups downs
  longer s t e a n h = record {
    rules = a.rules ++ (e ∷ []);
    numbers = All-join (Number k) a.rules (e ∷ []) a.numbers (n, tt);
    walk = walk_join k a.rules (e ∷ []) 0 (from_of k e) (to_of k e) a.walk (refl, refl);
    sums = omega (arith, h, ups_join k a.rules (e ∷ []), downs_join k a.rules (e ∷ []), a.sums);
  }

  -- a lower tick for one event
  lowered : (ts : List ℕ) (j v : ℕ) → Reached ts → j < events k → v ≤ k.horizon → Reach k 0 (suc j) v → Reached (set ts j v)
  lowered ts j v r l h a = record {
    count = length-set ts j v ∙ r.count;
    inside = All-set (λ t. t ≤ k.horizon) ts j v r.inside h;
    reach = λ p. at p;
  }
    where
      event : (i : ℕ) → suc i ≤ events k → Dec (i ≡ j) → Reach k 0 (suc i) (get_or (set ts j v) i 0)
      event i g (yes q) = rw q (rw (get_or-set_same ts j v 0 (omega (arith, r.count))) a)
      event i g (no n) = rw (get_or-set_other ts j i v 0 n) (r.reach (suc i) g)

      at : (p : ℕ) → p ≤ events k → Reach k 0 p (time (set ts j v) p)
      at zero g = r.reach zero g
      at (suc i) g = event i g (ℕ_discrete i j)

  -- a rule that fails shows a ring, or lowers the event that it goes to
  Step : List ℕ → Type 0
  Step ts = ((us : List ℕ) × Reached us × (total us < total ts)) ⊎ ((es : List ℕ) × Ring k es)

  lower : (ts : List ℕ) → Reached ts → (e : ℕ) → Number k e → Fails ts (rule_at k e) → Step ts
  unfolding Step
  lower ts r e n f = ⊎_elim (λ (h : s + a < b). inr (closes ts r e n h)) (λ (h : b ≤ s + a). inl (at (to_of k e) refl h)) (below_or_not (s + a) b)
    where
      s : ℕ
      s = time ts (from_of k e)

      a : ℕ
      a = above (bound_of k e)

      b : ℕ
      b = below (bound_of k e)

      at : (p : ℕ) → to_of k e ≡ p → b ≤ s + a → (us : List ℕ) × Reached us × (total us < total ts)
      at zero q h = absurd (omega (arith, f, h, ap (time ts) q))
      at (suc j) q h =
          let v : ℕ = s + a - b in
          let less : v < get_or ts j 0 = omega (arith, f, h, ap (time ts) q) in
          let high : get_or ts j 0 ≤ k.horizon = All-at (λ x. x ≤ k.horizon) 0 (omega arith) ts r.inside j in
          let reach : Reach k 0 (to_of k e) v = longer s v e (r.reach (from_of k e) (rule_points k points e).0) n (omega (arith, h)) in
          let event : j < events k = omega (arith, q, (rule_points k points e).1) in
          (set ts j v, lowered ts j v r event (omega (arith, less, high)) (subst (λ x. Reach k 0 x v) q reach), total_set ts j v less)

  Result : Type 0
  Result = ((ts : List ℕ) × Schedule k ts) ⊎ ((es : List ℕ) × Ring k es)

  settle : (fuel : ℕ) (ts : List ℕ) → total ts < fuel → Reached ts → Result
  unfolding Result Step
  settle zero ts l r = absurd (omega arith)
  settle (suc fuel) ts l r = step (λ us g s. settle fuel us g s) (failing ts k.rules)
    where
      more : ((us : List ℕ) → total us < fuel → Reached us → Result) → Step ts → Result
      more f (inl u) = f u.0 (omega (arith, u.2)) u.1
      more f (inr e) = inr e

      step : ((us : List ℕ) → total us < fuel → Reached us → Result) → All (Holds ts) k.rules ⊎ Failing ts k.rules → Result
      step f (inl h) = inl (
        ts,
        record {
          count = r.count;
          inside = r.inside;
          obeys = All-map (λ (q : Rule) g. (signed (time ts q.from) (time ts q.to) q.bound).1 g) k.rules h;
        },
      )
      step f (inr w) = more f (lower ts r (suc w.0) (omega arith, omega (arith, w.1)) (subst (Fails ts) (sym (rule_written k w.0 w.1)) w.2))

  pub schedule_or_ring : ((ts : List ℕ) × Schedule k ts) ⊎ ((es : List ℕ) × Ring k es)
  unfolding Result
  schedule_or_ring = settle (suc (total (replicate (events k) k.horizon))) (replicate (events k) k.horizon) (omega arith) highest

-- ---- a ticket has no schedule exactly where it has a ring, and then it has one of at most n + 1 rules

pub ring_iff : (k : Ticket) → Points k → (¬ T (consistent k)) ↔ ((es : List ℕ) × Ring k es × (length es ≤ suc (events k)))
ring_iff k points = (λ n. there n (schedule_or_ring k points), back')
  where
    there : ¬ T (consistent k) → ((ts : List ℕ) × Schedule k ts) ⊎ ((es : List ℕ) × Ring k es) → (es : List ℕ) × Ring k es × (length es ≤ suc (events k))
    there n (inl s) = absurd (n ((consistent_has k).1 s))
    there n (inr r) = short_ring k points r.0 r.1

    back' : (es : List ℕ) × Ring k es × (length es ≤ suc (events k)) → ¬ T (consistent k)
    back' r t =
        let s = (consistent_has k).0 t in
        ring_refutes k r.0 r.1 s.0 s.1
