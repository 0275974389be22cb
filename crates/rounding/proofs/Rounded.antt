-- The laws of what specs/Rounded defines.
use Rattle.std.specs.Prelude.{◌≡◌, refl, List, [], ◌∷◌, ℕ, ◌+◌, ◌*◌, ◌-◌, ◌≤◌, ◌<◌, ℤ, pos, ◌*ℤ◌}
use Rattle.std.proofs.Common.{ap, ◌∙◌, arith}
use Rattle.std.proofs.lemmas.List.{length-map}
use Rattle.network.specs.Sum.{sum, sum_cong, sum_add, sum_none, sum_scale}
use Rattle.temporal.proofs.Lists.{All-map, All-mapped}
use Rattle.temporal.specs.Bound.{above, below}
use Rattle.temporal.specs.Ticket.{Rule, Ticket, Distinct, Window, origin, window_of, Ordered, Fit, weight, total_of}
use Rattle.temporal.specs.Ends.{Ends}
use Rattle.temporal.proofs.Ends.{ends_fit, fit_ends}
use Rattle.rounding.specs.Grid.{FineFit}
use Rattle.rounding.specs.Round.{round}
use Rattle.rounding.proofs.Round.{round_le, round_add, round_zero, round_whole, hermite}
use Rattle.rounding.specs.Scale.{scale_rule, scale}
use Rattle.rounding.proofs.Scale.{fine_fit, distinct_scaled, above_scaled, below_scaled, at_map}
use Rattle.rounding.specs.Rounded.{round_window, round_windows}

-- ---- a rounding keeps a set fit

-- b minus a is at most q times c: then b rounded minus a rounded is at most c
rule_rounded : (q s a b : ℕ) (c : ℤ) → 1 ≤ q → b + below (pos q *ℤ c) ≤ a + above (pos q *ℤ c) → round q s b + below c ≤ round q s a + above c
rule_rounded q s a b c l h =
    let g : b + q * below c ≤ a + q * above c = omega (arith, above_scaled q c, below_scaled q c) in
    omega (arith, round_le q s (b + q * below c) (a + q * above c) l g, round_add q s b (below c) l, round_add q s a (above c) l)

-- in 0 to q times h: then rounded in 0 to h
inside_rounded : (q s h x : ℕ) → s < q → x ≤ q * h → round q s x ≤ h
inside_rounded q s h x b i = omega (arith, round_le q s x (q * h) (omega arith) i, round_whole q s h b)

module _ (q s : ℕ) (b : s < q) where
  pub at_rounded : (ws : List Window) (p : ℕ) → window_of (round_windows q s ws) p ≡ round_window q s (window_of ws p)
  at_rounded ws p = at_map (round_window q s) origin (λ i. record { opens = round_zero q s b i; closes = round_zero q s b i }) ws p

  ends_rounded : (k : Ticket) (ws : List Window) → Ends (scale q k) ws → Ends k (round_windows q s ws)
  ends_rounded k ws e = record {
    count = length-map ws (round_window q s) ∙ e.count;
    ordered = λ p. rw (at_rounded ws p) (round_le q s (window_of ws p).opens (window_of ws p).closes (omega arith) (e.ordered p));
    inside = λ p. rw (at_rounded ws p) (inside_rounded q s k.horizon (window_of ws p).closes b (e.inside p));
    obeys = All-map (λ (r : Rule) h. rw (at_rounded ws r.from, at_rounded ws r.to)
        (rule_rounded q s (window_of ws r.from).opens (window_of ws r.to).closes r.bound (omega arith) h))
        k.rules (All-mapped _ (scale_rule q) k.rules e.obeys);
  }

  pub rounded_fit : (k : Ticket) → Distinct k → (ws : List Window) → FineFit q k ws → Fit k (round_windows q s ws)
  rounded_fit k d ws f =
      ends_fit k (round_windows q s ws) (ends_rounded k ws (fit_ends (scale q k) (distinct_scaled q k d) ws ((fine_fit q k ws).0 f)))

-- ---- the roundings together

module _ (q : ℕ) (l : 1 ≤ q) where
  abbrev width_of : Window → ℕ → ℕ
  width_of w s = round q s w.closes - round q s w.opens

  -- a window is as wide as its roundings together
  width_rounded : (w : Window) → w.opens ≤ w.closes → sum q (width_of w) ≡ w.closes - w.opens
  width_rounded w h =
      omega (
        arith,
        sum_add (width_of w) (λ s. round q s w.opens) q,
        sum_cong (λ s. width_of w s + round q s w.opens) (λ s. round q s w.closes) q (λ s b. omega (arith, round_le q s w.opens w.closes l h)),
        hermite q w.closes l,
        hermite q w.opens l,
      )

  -- and so is a set of windows
  pub total_rounded : (owners : List ℕ) (ws : List Window) → Ordered ws → sum q (λ s. total_of owners (round_windows q s ws)) ≡ total_of owners ws
  total_rounded [] ws h = sum_none q _ (λ s b. refl)
  total_rounded (owner ∷ owners) [] h = sum_none q _ (λ s b. refl)
  total_rounded (owner ∷ owners) (w ∷ ws) h =
      omega (
        arith,
        sum_add (λ s. weight owner * width_of w s) (λ s. total_of owners (round_windows q s ws)) q,
        sum_scale (weight owner) q (width_of w),
        ap (λ n. weight owner * n) (width_rounded w h.0),
        total_rounded owners ws h.1,
      )
