-- The laws of what specs/Scale defines.
use Rattle.std.specs.Prelude.{◌≡◌, refl, List, [], ◌∷◌, map, ◌↔◌, ◌≢◌, ℕ, zero, suc, ◌+◌, ◌*◌, ◌-◌, ◌≤◌, ℤ, pos, negsuc, neg_ℤ, ◌*ℤ◌, get_or}
use Rattle.std.proofs.Common.{sym, ap, subst, ◌∙◌, mul-zero, mul-add, mul_left_comm, mul-le-mul_left, arith}
use Rattle.std.proofs.Math.Nat.{mul-sub}
use Rattle.std.proofs.lemmas.List.{length-map}
use Rattle.std.proofs.Math.ListN.{get_or-map}
use Rattle.temporal.proofs.Lists.{All-map, map-All, All-mapped}
use Rattle.temporal.specs.Bound.{AtMost, above, below}
use Rattle.temporal.specs.Ticket.{Rule, Ticket, Distinct, time, Schedule, Window, origin, window_of, Fit, weight, total_of}
use Rattle.temporal.specs.Ends.{Ends}
use Rattle.temporal.proofs.Ends.{ends_fit, fit_ends}
use Rattle.rounding.specs.Grid.{FineSchedule, FineFit, scale_window}
use Rattle.rounding.specs.Scale.{scale, scale_rule, scale_windows}

-- ---- the grid of q-th ticks

-- a rule holds of these times
abbrev Obeys : List ℕ → Rule → Type 0
Obeys ts r = AtMost (time ts r.from) (time ts r.to) r.bound

module _ (q : ℕ) (k : Ticket) where
  pub fine_schedule : (ts : List ℕ) → FineSchedule q k ts ↔ Schedule (scale q k) ts
  fine_schedule ts = (
    λ f. record { count = f.count; inside = f.inside; obeys = map-All (Obeys ts) (scale_rule q) k.rules f.obeys },
    λ s. record { count = s.count; inside = s.inside; obeys = All-mapped (Obeys ts) (scale_rule q) k.rules s.obeys },
  )

  pub fine_fit : (ws : List Window) → FineFit q k ws ↔ Fit (scale q k) ws
  fine_fit ws = (
    λ f. record { count = f.count; ordered = f.ordered; every = λ ts c. (fine_schedule ts).0 (f.every ts c) },
    λ f. record { count = f.count; ordered = f.ordered; every = λ ts c. (fine_schedule ts).1 (f.every ts c) },
  )

  pub distinct_scaled : Distinct k → Distinct (scale q k)
  distinct_scaled d = map-All (λ (r : Rule). r.from ≢ r.to) (scale_rule q) k.rules d

-- ---- a bound multiplied

above_neg : (n : ℕ) → above (neg_ℤ (pos n)) ≡ 0
unfolding above
above_neg zero = refl
above_neg (suc n) = refl

below_neg : (n : ℕ) → below (neg_ℤ (pos n)) ≡ n
unfolding below
below_neg zero = refl
below_neg (suc n) = refl

pub above_scaled : (q : ℕ) (c : ℤ) → above (pos q *ℤ c) ≡ q * above c
unfolding above
above_scaled q (pos n) = refl
above_scaled q (negsuc n) = above_neg (q * suc n) ∙ sym (mul-zero q)

pub below_scaled : (q : ℕ) (c : ℤ) → below (pos q *ℤ c) ≡ q * below c
unfolding below
below_scaled q (pos n) = sym (mul-zero q)
below_scaled q (negsuc n) = below_neg (q * suc n)

-- b minus a is at most c: then so are all three multiplied
rule_scaled : (q a b : ℕ) (c : ℤ) → b + below c ≤ a + above c → q * b + below (pos q *ℤ c) ≤ q * a + above (pos q *ℤ c)
rule_scaled q a b c h = omega (arith, mul-le-mul_left q h, mul-add q b (below c), mul-add q a (above c), above_scaled q c, below_scaled q c)

-- ---- windows multiplied

-- by the point, where the default stays
pub at_map : {A : Type 0} (f : A → A) (d : A) → f d ≡ d → (xs : List A) (p : ℕ) → get_or (d ∷ map f xs) p d ≡ f (get_or (d ∷ xs) p d)
at_map f d z xs zero = sym z
at_map f d z xs (suc i) = subst (λ e. get_or (map f xs) i e ≡ f (get_or xs i d)) z (get_or-map f xs i d)

module _ (q : ℕ) where
  pub at_scaled : (ws : List Window) (p : ℕ) → window_of (scale_windows q ws) p ≡ scale_window q (window_of ws p)
  at_scaled ws p = at_map (scale_window q) origin (λ i. record { opens = mul-zero q i; closes = mul-zero q i }) ws p

  ends_scaled : (k : Ticket) (ws : List Window) → Ends k ws → Ends (scale q k) (scale_windows q ws)
  ends_scaled k ws e = record {
    count = length-map ws (scale_window q) ∙ e.count;
    ordered = λ p. rw (at_scaled ws p) (mul-le-mul_left q (e.ordered p));
    inside = λ p. rw (at_scaled ws p) (mul-le-mul_left q (e.inside p));
    obeys = map-All _ (scale_rule q) k.rules (All-map (λ (r : Rule) h. rw (at_scaled ws r.from, at_scaled ws r.to)
        (rule_scaled q (window_of ws r.from).opens (window_of ws r.to).closes r.bound h)) k.rules e.obeys);
  }

  pub scaled_fit : (k : Ticket) → Distinct k → (ws : List Window) → Fit k ws → FineFit q k (scale_windows q ws)
  scaled_fit k d ws f = (fine_fit q k (scale_windows q ws)).1 (ends_fit (scale q k) (scale_windows q ws) (ends_scaled k ws (fit_ends k d ws f)))

  pub total_scaled : (owners : List ℕ) (ws : List Window) → total_of owners (scale_windows q ws) ≡ q * total_of owners ws
  total_scaled [] ws = sym (mul-zero q)
  total_scaled (owner ∷ owners) [] = sym (mul-zero q)
  total_scaled (owner ∷ owners) (w ∷ ws) =
      omega (
        arith,
        ap (λ n. weight owner * n) (mul-sub q w.closes w.opens),
        mul_left_comm (weight owner) q (w.closes - w.opens),
        mul-add q (weight owner * (w.closes - w.opens)) (total_of owners ws),
        total_scaled owners ws,
      )
