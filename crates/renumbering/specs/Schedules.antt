-- Renumbering leaves what a ticket means: schedules, whether there is one, fit windows, and the table of distances, under the new numbers.
use Rattle.std.specs.Prelude.{◌≡◌, List, ◌↔◌, ℕ, ◌+◌, ◌≤◌, T, length, ◌≤ℤ◌}
use Rattle.std.proofs.Common.{sym, ap, ◌∙◌, subst, subst₂, arith}
use Rattle.std.proofs.Math.IntN.{sub_ℕ}
use Rattle.temporal.proofs.Lists.{iff_same, All-map, map-All}
use Rattle.temporal.specs.Bound.{AtMost, above, below}
use Rattle.temporal.specs.Ticket.{Rule, Ticket, events, time, Schedule, Window, origin, window_of, Choice, Fit, fits}
use Rattle.temporal.specs.Ends.{Ends}
use Rattle.temporal.proofs.Ends.{fits_ends, ends_fits}
use Rattle.temporal.specs.Distance.{consistent, distance}
use Rattle.temporal.proofs.Distance.{consistent_same, distance_attained, distance_most, distance_is}
use Rattle.renumbering.specs.Order.{Order, inverse, length_reorder, at_old, at_new, All-reorder, reorder_undo, reorder_redo}
use Rattle.renumbering.specs.Renumber.{renumber_rule, renumber, renumber_ticks, renumber_windows, events_renumber, renumber_undo}

-- ---- schedules

-- to the new numbers; the way back is the same law for the inverse order
pub schedule_in : {n : ℕ} (o : Order n) (k : Ticket) → events k ≡ n → (ts : List ℕ) → Schedule k ts → Schedule (renumber o k) (renumber_ticks o ts)
schedule_in {n} o k e ts s = record {
  count = length_reorder o 0 ts ∙ sym (events_renumber o k);
  inside = All-reorder o 0 (λ t. t ≤ k.horizon) (omega arith) ts s.inside;
  obeys = map-All (Obeys (renumber_ticks o ts)) (renumber_rule o) k.rules (All-map rule k.rules s.obeys);
}
  where
    Obeys : List ℕ → Rule → Type 0
    Obeys us r = AtMost (time us r.from) (time us r.to) r.bound

    l : length ts ≡ n
    l = s.count ∙ e

    rule : (r : Rule) → Obeys ts r → Obeys (renumber_ticks o ts) (renumber_rule o r)
    rule r h = subst₂ (λ a b. AtMost a b r.bound) (sym (at_new o 0 ts l r.from)) (sym (at_new o 0 ts l r.to)) h

module _ {n : ℕ} (o : Order n) (k : Ticket) (e : events k ≡ n) where
  pub schedule_back : (us : List ℕ) → Schedule (renumber o k) us → Schedule k (renumber_ticks (inverse o) us)
  schedule_back us s =
      subst (λ j. Schedule j (renumber_ticks (inverse o) us)) (renumber_undo o k e) (schedule_in (inverse o) (renumber o k) (events_renumber o k) us s)

  pub schedule_same : (ts : List ℕ) → length ts ≡ n → Schedule k ts ↔ Schedule (renumber o k) (renumber_ticks o ts)
  schedule_same ts l = (schedule_in o k e ts, λ s. subst (Schedule k) (reorder_undo 0 o ts l) (schedule_back (renumber_ticks o ts) s))

  -- there is a schedule, or there is none, as before
  pub consistent_in : consistent (renumber o k) ≡ consistent k
  consistent_in = consistent_same (renumber o k) k
      (λ us s. (renumber_ticks (inverse o) us, schedule_back us s)) (λ ts s. (renumber_ticks o ts, schedule_in o k e ts s))

-- ---- fit windows

choice_in : {n : ℕ} (o : Order n) (ws : List Window) → length ws ≡ n → (ts : List ℕ) → Choice ws ts → Choice (renumber_windows o ws) (renumber_ticks o ts)
choice_in o ws l ts c = record {
  count = length_reorder o 0 ts ∙ sym (length_reorder o origin ws);
  after = λ p. omega (arith, ap (λ (w : Window). w.opens) (at_old o origin ws l p), at_old o 0 ts (c.count ∙ l) p, c.after (o.old p));
  before = λ p. omega (arith, ap (λ (w : Window). w.closes) (at_old o origin ws l p), at_old o 0 ts (c.count ∙ l) p, c.before (o.old p));
}

pub fit_in : {n : ℕ} (o : Order n) (k : Ticket) → events k ≡ n → (ws : List Window) → Fit k ws → Fit (renumber o k) (renumber_windows o ws)
fit_in {n} o k e ws f = record {
  count = length_reorder o origin ws ∙ sym (events_renumber o k);
  ordered = All-reorder o origin (λ (w : Window). w.opens ≤ w.closes) (omega arith) ws f.ordered;
  every = every;
}
  where
    l : length ws ≡ n
    l = f.count ∙ e

    every : (us : List ℕ) → Choice (renumber_windows o ws) us → Schedule (renumber o k) us
    every us c =
        let ts : List ℕ = renumber_ticks (inverse o) us in
        let d : Choice (renumber_windows (inverse o) (renumber_windows o ws)) ts = choice_in (inverse o) (renumber_windows o ws) (length_reorder o origin ws) us c in
        let s : Schedule k ts = f.every ts (subst (λ vs. Choice vs ts) (reorder_undo origin o ws l) d) in
        subst (Schedule (renumber o k)) (reorder_redo 0 o us (c.count ∙ length_reorder o origin ws)) (schedule_in o k e ts s)

pub ends_in : {n : ℕ} (o : Order n) (k : Ticket) → events k ≡ n → (ws : List Window) → Ends k ws → Ends (renumber o k) (renumber_windows o ws)
ends_in {n} o k e ws f = record {
  count = length_reorder o origin ws ∙ sym (events_renumber o k);
  ordered = λ p. subst (λ (w : Window). w.opens ≤ w.closes) (sym (at_old o origin ws l p)) (f.ordered (o.old p));
  inside = λ p. subst (λ (w : Window). w.closes ≤ k.horizon) (sym (at_old o origin ws l p)) (f.inside (o.old p));
  obeys = map-All (Obeys (renumber_windows o ws)) (renumber_rule o) k.rules (All-map rule k.rules f.obeys);
}
  where
    Obeys : List Window → Rule → Type 0
    Obeys us r = (window_of us r.to).closes + below r.bound ≤ (window_of us r.from).opens + above r.bound

    l : length ws ≡ n
    l = f.count ∙ e

    rule : (r : Rule) → Obeys ws r → Obeys (renumber_windows o ws) (renumber_rule o r)
    rule r h =
        subst₂ (λ (v w : Window). v.closes + below r.bound ≤ w.opens + above r.bound)
        (sym (at_new o origin ws l r.to)) (sym (at_new o origin ws l r.from)) h

pub fits_in : {n : ℕ} (o : Order n) (k : Ticket) → events k ≡ n → (ws : List Window) → T (fits k ws) → T (fits (renumber o k) (renumber_windows o ws))
fits_in o k e ws t = ends_fits (renumber o k) (renumber_windows o ws) (ends_in o k e ws (fits_ends k ws t))

module _ {n : ℕ} (o : Order n) (k : Ticket) (e : events k ≡ n) where
  pub fit_back : (vs : List Window) → Fit (renumber o k) vs → Fit k (renumber_windows (inverse o) vs)
  fit_back vs f =
      subst (λ j. Fit j (renumber_windows (inverse o) vs)) (renumber_undo o k e) (fit_in (inverse o) (renumber o k) (events_renumber o k) vs f)

  pub fit_same : (ws : List Window) → length ws ≡ n → Fit k ws ↔ Fit (renumber o k) (renumber_windows o ws)
  fit_same ws l = (fit_in o k e ws, λ f. subst (Fit k) (reorder_undo origin o ws l) (fit_back (renumber_windows o ws) f))

  pub fits_back : (vs : List Window) → T (fits (renumber o k) vs) → T (fits k (renumber_windows (inverse o) vs))
  fits_back vs t =
      subst (λ j. T (fits j (renumber_windows (inverse o) vs))) (renumber_undo o k e) (fits_in (inverse o) (renumber o k) (events_renumber o k) vs t)

  pub fits_same : (ws : List Window) → length ws ≡ n → fits (renumber o k) (renumber_windows o ws) ≡ fits k ws
  fits_same ws l = iff_same (fits (renumber o k) (renumber_windows o ws)) (fits k ws)
      (λ t. subst (λ vs. T (fits k vs)) (reorder_undo origin o ws l) (fits_back (renumber_windows o ws) t)) (fits_in o k e ws)

  -- ---- the table: between two points stands what stood between the same points

  pub distance_old : (i j : ℕ) → T (consistent k) → distance (renumber o k) i j ≡ distance k (o.old i) (o.old j)
  distance_old i j t =
      let r = distance_attained k (o.old i) (o.old j) t in
      distance_is (renumber o k) i j (distance k (o.old i) (o.old j)) (renumber_ticks o r.0) (schedule_in o k e r.0 r.1)
      (between r.0 (r.1.count ∙ e) ∙ r.2) most
    where
      between : (ts : List ℕ) → length ts ≡ n → sub_ℕ (time (renumber_ticks o ts) j) (time (renumber_ticks o ts) i) ≡ sub_ℕ (time ts (o.old j)) (time ts (o.old i))
      between ts l = λ x. sub_ℕ (at_old o 0 ts l j x) (at_old o 0 ts l i x)

      most : (us : List ℕ) → Schedule (renumber o k) us → sub_ℕ (time us j) (time us i) ≤ℤ distance k (o.old i) (o.old j)
      most us s =
          let ts : List ℕ = renumber_ticks (inverse o) us in
          let q : renumber_ticks o ts ≡ us = reorder_redo 0 o us (s.count ∙ events_renumber o k) in
          let m = distance_most k (o.old i) (o.old j) ts (schedule_back o k e us s) in
          subst (λ vs. sub_ℕ (time vs j) (time vs i) ≤ℤ distance k (o.old i) (o.old j)) q
          (subst (λ z. z ≤ℤ distance k (o.old i) (o.old j)) (sym (between ts (length_reorder (inverse o) 0 us))) m)

  pub distance_same : (i j : ℕ) → T (consistent k) → distance (renumber o k) (o.new i) (o.new j) ≡ distance k i j
  distance_same i j t = distance_old (o.new i) (o.new j) t ∙ λ x. distance k (o.old_new i x) (o.old_new j x)
