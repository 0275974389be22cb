-- The plan of a device with one event: if the weight is not 0, the window from the first to the last tick at which a schedule has the event.
use Rattle.std.specs.Prelude.{◌≡◌, refl, List, [], ◌∷◌, map, ◌≢◌, T, pos, length, get_or}
use Rattle.std.proofs.Math.Path.{sym}
use Rattle.std.proofs.Common.{ap, ◌∙◌, mul-le-mul_left}
use Prim.Native.Nat.{ℕ, zero, suc, ◌+◌, ◌*◌, ◌-◌, ◌≤◌, ◌<◌}
use Rattle.std.proofs.Math.Nat.{le_of_mul-le-mul_left}
use native.Mathlib.Omega.{arith}
use Rattle.std.proofs.Math.IntN.{sub_ℕ}
use Rattle.temporal.proofs.Lists.{All-at}
use Rattle.temporal.specs.Bound.{above, below}
use Rattle.temporal.specs.Ticket.{Rule, Ticket, Window, origin, window_of, weight, total_of, total, fits}
use Rattle.temporal.specs.Ends.{Ends}
use Rattle.temporal.proofs.Ends.{fits_ends, ends_fits}
use Rattle.temporal.specs.Distance.{distance}
use Rattle.temporal.specs.Best.{Sooner, Chosen}
use Rattle.temporal.proofs.Best.{chosen_best, chosen_under}
use Rattle.temporal.proofs.FitSets.{fits_closed}
use Rattle.parts.specs.Part.{members, point, bounded_rule, distance_of, part_ticket, part_plan}
use Rattle.parts.proofs.PartDistance.{part_events, distances_all, distances_at}
use Rattle.parts.proofs.PartEarliest.{minus_is}

total_one : (d : ℕ) (vs : List Window) → length vs ≡ 1 → total_of (d ∷ []) vs ≡ weight d * ((window_of vs 1).closes - (window_of vs 1).opens)
total_one d [] e = absurd (omega arith)
total_one d (v ∷ vs) e = omega arith

module _ (d : ℕ) (k : Ticket) (p first last : ℕ) (one : members d k ≡ p ∷ []) (heavy : 0 < weight d) (order : first ≤ last) (inside : last ≤ k.horizon)
    (late : distance k 0 p ≡ pos last) (soon : distance k p 0 ≡ sub_ℕ 0 first) where
  abbrev part : Ticket
  part = part_ticket d k

  abbrev only : List Window
  only = record { opens = first; closes = last } ∷ []

  size : length (members d k) ≡ 1
  size = ap length one

  total_is : (vs : List Window) → Ends part vs → total part vs ≡ weight d * ((window_of vs 1).closes - (window_of vs 1).opens)
  total_is vs e = ap (λ ms. total_of (map (λ q. d) ms) vs) one ∙ total_one d vs (e.count ∙ part_events d k ∙ size)

  -- the two rules, without signs
  out : distance k (point d k 0) (point d k 1) ≡ pos last
  out = ap (λ ms. distance k 0 (get_or ms 0 0)) one ∙ late

  back : distance k (point d k 1) (point d k 0) ≡ sub_ℕ 0 first
  back = ap (λ ms. distance k (get_or ms 0 0) 0) one ∙ soon

  abbrev Obeys : List Window → Rule → Type 0
  Obeys vs r = (window_of vs r.to).closes + below r.bound ≤ (window_of vs r.from).opens + above r.bound

  within : (vs : List Window) → Ends part vs → (first ≤ (window_of vs 1).opens) × ((window_of vs 1).opens ≤ (window_of vs 1).closes) × ((window_of vs 1).closes ≤ last)
  unfolding above below
  within vs e =
      let a : Obeys vs (bounded_rule (distance_of d k) 0 1) = distances_at d k (Obeys vs) e.obeys 0 1 (omega arith) (omega (arith, size)) (λ q. omega arith) in
      let b : Obeys vs (bounded_rule (distance_of d k) 1 0) = distances_at d k (Obeys vs) e.obeys 1 0 (omega (arith, size)) (omega arith) (λ q. omega arith) in
      (omega (arith, rw back at b, minus_is first), e.ordered 1, omega (arith, rw out at a))

  only_ends : Ends part only
  unfolding above below
  only_ends = record {
    count = sym (part_events d k ∙ size);
    ordered = λ q. All-at (λ (w : Window). w.opens ≤ w.closes) origin (omega arith) (origin ∷ only) (omega arith, (order, tt)) q;
    inside = λ q. All-at (λ (w : Window). w.closes ≤ k.horizon) origin (omega arith) (origin ∷ only) (omega arith, (inside, tt)) q;
    obeys = distances_all d k (Obeys only) (λ i j li lj n. by i j (omega (arith, size)) (omega (arith, size)) n);
  }
    where
      by : (i j : ℕ) → i ≤ 1 → j ≤ 1 → i ≢ j → Obeys only (bounded_rule (distance_of d k) i j)
      by zero zero li lj n = absurd (n refl)
      by zero (suc zero) li lj n = rw out (omega arith)
      by zero (suc (suc j)) li lj n = absurd (omega arith)
      by (suc zero) zero li lj n = rw back (omega (arith, minus_is first))
      by (suc zero) (suc zero) li lj n = absurd (n refl)
      by (suc zero) (suc (suc j)) li lj n = absurd (omega arith)
      by (suc (suc i)) j li lj n = absurd (omega arith)

  only_chosen : Chosen part (Ends part) only
  only_chosen = record {
    allowed = only_ends;
    widest = λ vs e. rw (total_is vs e, total_is only only_ends) (mul-le-mul_left (weight d) (omega (arith, within vs e)));
    earliest = λ vs e t. at vs e (le_of_mul-le-mul_left {k = weight d} (omega (arith, total_is vs e, total_is only only_ends)) heavy);
  }
    where
      at : (vs : List Window) → Ends part vs → last - first ≤ (window_of vs 1).closes - (window_of vs 1).opens → Sooner only vs
      at vs e l zero = (omega arith, omega arith)
      at vs e l (suc zero) = (omega (arith, within vs e), omega (arith, within vs e))
      at vs e l (suc (suc q)) = (omega arith, omega arith)

  pub one_event : part_plan d k ≡ record { opens = first; closes = last } ∷ []
  one_event = sym (chosen_best part (fits part) (fits_closed part) only
      (chosen_under part (Ends part) (λ vs. T (fits part vs)) (λ vs x. ends_fits part vs x) (λ vs x. fits_ends part vs x) only only_chosen))
