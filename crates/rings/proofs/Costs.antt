-- The laws of what specs/Costs defines.
use Rattle.std.specs.Prelude.{◌≡◌, ◌↔◌, ◌⊎◌, ◌≢◌}
use Rattle.std.proofs.Math.Path.{refl, sym}
use Rattle.std.proofs.Common.{ap, ◌∙◌, subst, inl, inr, ⊎_elim}
use Rattle.std.proofs.Math.Bool.{Bool, true, false, cond}
use mathlib.Core.List.{List, [], ◌∷◌}
use Prim.Native.Nat.{ℕ, zero, suc, ◌+◌, ◌*◌, ◌-◌, ◌≤◌, ◌<◌, min}
use Rattle.std.proofs.Math.Decide.{ℕ_discrete}
use native.Mathlib.Omega.{arith}
use Rattle.std.proofs.Math.Dec.{T, not_T, eqb, eqb→eq, eqb_refl}
use Rattle.std.proofs.Math.ListN.{length}
use Rattle.temporal.specs.Lists.{All}
use Rattle.temporal.proofs.Lists.{T-true, T-false, below_or_not}
use Rattle.temporal.specs.Bound.{above, below, biased}
use Rattle.temporal.specs.Ticket.{Rule, Ticket}
use Rattle.temporal.specs.Run.{Valid}
use Rattle.paths.specs.Rules.{back, out, size, rule_at, from_of, to_of, bound_of, Number, Walk}
use Rattle.paths.specs.Walks.{ups, downs}
use Rattle.paths.proofs.Walks.{bound_below, bound_above}
use Rattle.rings.specs.Ring.{start_of, Ring}
use Rattle.rings.proofs.Ring.{eqb_eq}
use Rattle.rings.proofs.Loops.{ring_loop, walk_start, loop_ring}
use Rattle.rings.specs.Costs.{cost, costs, top, via, walks}

-- ---- the least cost over the rules from a point

low_old : (b : Bool) (a c : ℕ) → cond b (min a c) a ≤ a
low_old true a c = omega arith
low_old false a c = omega arith

low_new : (b : Bool) (a c : ℕ) → T b → cond b (min a c) a ≤ c
low_new true a c t = omega arith
low_new false a c t = absurd t

low_one : (b : Bool) (a c : ℕ) → (cond b (min a c) a ≡ a) ⊎ (T b × (cond b (min a c) a ≡ c))
low_one true a c = ⊎_elim (λ (l : a < c). inl (omega arith)) (λ (l : c ≤ a). inr (tt, omega arith)) (below_or_not a c)
low_one false a c = inl refl

module _ (k : Ticket) (w : ℕ → ℕ) (p : ℕ) where
  -- one rule more: it goes from p, or not
  pub via_here : (e : ℕ) → from_of k (suc e) ≡ p → via k w p (suc e) ≡ min (via k w p e) (cost k (suc e) + w (to_of k (suc e)))
  unfolding via
  via_here e q = rw (T-true (eqb (from_of k (suc e)) p) (eqb_eq (from_of k (suc e)) p q)) refl

  pub via_there : (e : ℕ) → from_of k (suc e) ≢ p → via k w p (suc e) ≡ via k w p e
  unfolding via
  via_there e n = rw (T-false (eqb (from_of k (suc e)) p) (not_T (eqb (from_of k (suc e)) p) (λ t. n (eqb→eq (from_of k (suc e)) p t)))) refl

  pub via_least : (e x : ℕ) → 1 ≤ x → x ≤ e → from_of k x ≡ p → via k w p e ≤ cost k x + w (to_of k x)
  unfolding via
  via_least zero x a b q = absurd (omega arith)
  via_least (suc e) x a b q = step (ℕ_discrete x (suc e)) (λ h. via_least e x a h q)
    where
      t : Bool
      t = eqb (from_of k (suc e)) p

      step : Dec (x ≡ suc e) → (x ≤ e → via k w p e ≤ cost k x + w (to_of k x))
          → cond t (min (via k w p e) (cost k (suc e) + w (to_of k (suc e)))) (via k w p e) ≤ cost k x + w (to_of k x)
      step (yes s) f =
          let c : cost k x + w (to_of k x) ≡ cost k (suc e) + w (to_of k (suc e)) = ap (λ y. cost k y + w (to_of k y)) s in
          omega (arith, c, low_new t (via k w p e) (cost k (suc e) + w (to_of k (suc e))) (eqb_eq (from_of k (suc e)) p (ap (from_of k) (sym s) ∙ q)))
      step (no n) f = omega (arith, f (omega arith), low_old t (via k w p e) (cost k (suc e) + w (to_of k (suc e))))

  pub via_attained : (e : ℕ) → via k w p e < top → (x : ℕ) × (1 ≤ x) × (x ≤ e) × (from_of k x ≡ p) × (via k w p e ≡ cost k x + w (to_of k x))
  unfolding via
  via_attained zero l = absurd (omega arith)
  via_attained (suc e) l = step (low_one t a c) (λ h. via_attained e h)
    where
      t : Bool
      t = eqb (from_of k (suc e)) p

      a : ℕ
      a = via k w p e

      c : ℕ
      c = cost k (suc e) + w (to_of k (suc e))

      step : (cond t (min a c) a ≡ a) ⊎ (T t × (cond t (min a c) a ≡ c)) → (a < top → (x : ℕ) × (1 ≤ x) × (x ≤ e) × (from_of k x ≡ p) × (a ≡ cost k x + w (to_of k x)))
          → (x : ℕ) × (1 ≤ x) × (x ≤ suc e) × (from_of k x ≡ p) × (cond t (min a c) a ≡ cost k x + w (to_of k x))
      step (inl q) f =
          let r = f (omega (arith, q)) in
          (r.0, r.1, omega (arith, r.2), r.3, q ∙ r.4)
      step (inr q) f = (suc e, omega arith, omega arith, eqb→eq (from_of k (suc e)) p q.0, q.1)

-- ---- the least cost of a walk of r rules

module _ (k : Ticket) (q : ℕ) where
  -- of no rules
  pub walks_here : walks k q 0 q ≡ 0
  unfolding walks
  walks_here = rw (T-true (eqb q q) (eqb_refl q)) refl

  pub walks_there : (p : ℕ) → p ≢ q → walks k q 0 p ≡ top
  unfolding walks
  walks_there p n = rw (T-false (eqb p q) (not_T (eqb p q) (λ t. n (eqb→eq p q t)))) refl

  -- of one rule more: the least over all rules from p of its cost and the least cost on from where it goes to
  pub walks_more : (r p : ℕ) → walks k q (suc r) p ≡ via k (walks k q r) p (size k)
  unfolding walks
  walks_more r p = refl

  bounded : (es : List ℕ) (p : ℕ) → All (Number k) es → Walk k p es q → walks k q (length es) p ≤ costs k es
  unfolding walks costs
  bounded [] p n h = by (eqb p q) (eqb_eq p q h)
    where
      by : (b : Bool) → T b → cond b 0 top ≤ 0
      by true t = omega arith
      by false t = absurd t
  bounded (e ∷ es) p n h =
      omega (arith, via_least k (walks k q (length es)) p (size k) e n.0.0 n.0.1 (sym h.0), bounded es (to_of k e) n.1 h.1)

  -- no walk costs less
  pub walks_least : (r : ℕ) (es : List ℕ) (p : ℕ) → All (Number k) es → Walk k p es q → length es ≡ r → walks k q r p ≤ costs k es
  walks_least r es p n h e = subst (λ m. walks k q m p ≤ costs k es) e (bounded es p n h)

  -- and one costs as little
  pub walks_attained : (r p : ℕ) → walks k q r p < top → (es : List ℕ) × All (Number k) es × Walk k p es q × (length es ≡ r) × (costs k es ≡ walks k q r p)
  unfolding walks costs
  walks_attained zero p l = by (eqb p q) (λ t. eqb→eq p q t) l
    where
      by : (b : Bool) → (T b → p ≡ q) → cond b 0 top < top → (es : List ℕ) × All (Number k) es × Walk k p es q × (length es ≡ 0) × (costs k es ≡ cond b 0 top)
      by true f h = ([], tt, f tt, refl, refl)
      by false f h = absurd (omega arith)
  walks_attained (suc r) p l = step (via_attained k (walks k q r) p (size k) l) (λ x h. walks_attained r x h)
    where
      v : ℕ
      v = via k (walks k q r) p (size k)

      step : (x : ℕ) × (1 ≤ x) × (x ≤ size k) × (from_of k x ≡ p) × (v ≡ cost k x + walks k q r (to_of k x))
          → ((x : ℕ) → walks k q r x < top → (es : List ℕ) × All (Number k) es × Walk k x es q × (length es ≡ r) × (costs k es ≡ walks k q r x))
          → (es : List ℕ) × All (Number k) es × Walk k p es q × (length es ≡ suc r) × (costs k es ≡ v)
      step a f =
          let w = f (to_of k a.0) (omega (arith, a.4)) in
          (a.0 ∷ w.0, ((a.1, a.2), w.1), (sym a.3, w.2), ap suc w.3, omega (arith, a.4, w.4))

-- ---- costs and bounds

-- what the unwritten rules cost
pub cost_back : (k : Ticket) (e i : ℕ) → rule_at k e ≡ back i → cost k e ≡ 1000000
unfolding cost biased above below
cost_back k e i q = ap (λ (r : Rule). biased r.bound) q

pub cost_out : (k : Ticket) (e h i : ℕ) → rule_at k e ≡ out h i → cost k e ≡ 1000000 + h
unfolding cost biased above below
cost_out k e h i q = ap (λ (r : Rule). biased r.bound) q ∙ plain
  where
    plain : 1000000 + h - 0 ≡ 1000000 + h
    plain = omega arith

module _ (k : Ticket) (v : Valid k) where
  pub cost_parts : (e : ℕ) → cost k e + below (bound_of k e) ≡ 1000000 + above (bound_of k e)
  unfolding cost biased
  cost_parts e = omega (arith, bound_below k v e)

  -- no rule costs more than two millions
  pub cost_most : (e : ℕ) → cost k e ≤ 2000000
  cost_most e = omega (arith, cost_parts e, bound_above k v e)

  pub costs_parts : (es : List ℕ) → costs k es + downs k es ≡ length es * 1000000 + ups k es
  unfolding costs ups downs
  costs_parts [] = refl
  costs_parts (e ∷ es) = omega (arith, cost_parts e, costs_parts es)

  -- a ring of r rules costs less than r × 1,000,000
  pub ring_costs : (es : List ℕ) → Ring k es → costs k es < length es * 1000000
  ring_costs es r = omega (arith, costs_parts es, (ring_loop k es r).negative)

  pub costs_ring : (p : ℕ) (es : List ℕ) → 1 ≤ length es → All (Number k) es → Walk k p es p → costs k es < length es * 1000000 → Ring k es
  costs_ring p es s n w h = loop_ring k p es (record { some = s; numbers = n; closed = w; negative = omega (arith, costs_parts es) })

  -- a ring of r rules that starts at q exists exactly where the least cost of r rules from q to q is below r × 1,000,000
  pub walks_ring : (q r : ℕ) → 1 ≤ r → r ≤ 41 → (walks k q r q < r * 1000000) ↔ ((es : List ℕ) × Ring k es × (length es ≡ r) × (start_of k es ≡ q))
  unfolding top
  walks_ring q r a b = (there, back')
    where
      there : walks k q r q < r * 1000000 → (es : List ℕ) × Ring k es × (length es ≡ r) × (start_of k es ≡ q)
      there h =
          let w = walks_attained k q r q (omega arith) in
          let l : 1 ≤ length w.0 = omega (arith, w.3) in
          (w.0, costs_ring q w.0 l w.1 w.2 (omega (arith, w.3, w.4)), w.3, sym (walk_start k q w.0 l w.2))

      back' : (es : List ℕ) × Ring k es × (length es ≡ r) × (start_of k es ≡ q) → walks k q r q < r * 1000000
      back' e =
          let c : Walk k q e.0 q = subst (λ x. Walk k x e.0 x) e.3 e.1.closed in
          omega (arith, walks_least k q r e.0 q e.1.numbers c e.2, ring_costs e.0 e.1, e.2)
