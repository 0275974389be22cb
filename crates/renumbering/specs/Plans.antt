-- Both plans of a renumbered ticket are the renumbered ones (`plan_same`, `latest_same`). Rests on the
-- uniqueness of what is chosen (`temporal`, Best and Latest): the renumbered best set is allowed, widest and earliest, or latest.
use Rattle.std.specs.Prelude.{◌≡◌, Bool, List, ℕ, ◌≤◌, length}
use Rattle.std.proofs.Math.Path.{refl}
use Rattle.std.proofs.Common.{sym, ap, ◌∙◌, subst, subst₂, arith}
use Rattle.std.proofs.Math.Bool.{true, false, cond}
use Rattle.std.proofs.Math.Dec.{T}
use Rattle.std.proofs.Math.ListN.{replicate}
use Rattle.temporal.specs.Ticket.{Ticket, events, Window, origin, window_of, fits, total}
use Rattle.temporal.specs.Best.{best, best_latest, Chosen, ChosenLatest, Closed}
use Rattle.temporal.proofs.Best.{best_chosen, chosen_best}
use Rattle.temporal.proofs.Latest.{best_latest_chosen, chosen_best_latest}
use Rattle.temporal.specs.Distance.{consistent}
use Rattle.temporal.specs.Plan.{refused, accepted, planned, plan, planned_latest, plan_latest}
use Rattle.temporal.proofs.FitSets.{fits_closed, consistent_fits}
use Rattle.runs.specs.SideBySide.{image_answer}
use Rattle.renumbering.specs.Order.{Order, inverse, length_reorder, at_old, at_new, reorder_replicate, reorder_redo}
use Rattle.renumbering.specs.Renumber.{renumber, renumber_windows, renumber_flags, renumber_state, events_renumber}
use Rattle.renumbering.specs.Schedules.{consistent_in, fits_in, fits_back}
use Rattle.renumbering.specs.Totals.{total_same}

module _ {n : ℕ} (o : Order n) (k : Ticket) (e : events k ≡ n) where
  -- ---- the widest, and of these the earliest or the latest

  module _ (P Q : List Window → Type 0) (P-length : (vs : List Window) → P vs → length vs ≡ n) (Q-length : (vs : List Window) → Q vs → length vs ≡ n)
      (there : (vs : List Window) → P vs → Q (renumber_windows o vs)) (back : (vs : List Window) → Q vs → P (renumber_windows (inverse o) vs)) where
    total_back : (vs : List Window) → Q vs → total (renumber o k) vs ≡ total k (renumber_windows (inverse o) vs)
    total_back vs q =
        subst (λ us. total (renumber o k) us ≡ total k (renumber_windows (inverse o) vs)) (reorder_redo origin o vs (Q-length vs q))
        (total_same o k e (renumber_windows (inverse o) vs) (length_reorder (inverse o) origin vs))

    module _ (ws : List Window) (l : length ws ≡ n) where
      widest_in : ((vs : List Window) → P vs → total k vs ≤ total k ws) → (vs : List Window) → Q vs → total (renumber o k) vs ≤ total (renumber o k) (renumber_windows o ws)
      widest_in h vs q = omega (arith, total_back vs q, total_same o k e ws l, h (renumber_windows (inverse o) vs) (back vs q))

      equal_back : (vs : List Window) → Q vs → total (renumber o k) vs ≡ total (renumber o k) (renumber_windows o ws) → total k (renumber_windows (inverse o) vs) ≡ total k ws
      equal_back vs q t = sym (total_back vs q) ∙ t ∙ total_same o k e ws l

      -- by the point: the old one's window in ws, and in the set put back
      at_both : (R : Window → Window → Type 0) (vs : List Window) → Q vs → (p : ℕ)
          → R (window_of ws (o.old p)) (window_of (renumber_windows (inverse o) vs) (o.old p))
          → R (window_of (renumber_windows o ws) p) (window_of vs p)
      at_both R vs q p h = subst₂ R (sym (at_old o origin ws l p)) (at_new (inverse o) origin vs (Q-length vs q) p) h

    pub chosen_in : (ws : List Window) → Chosen k P ws → Chosen (renumber o k) Q (renumber_windows o ws)
    chosen_in ws c = record {
      allowed = there ws c.allowed;
      widest = widest_in ws l c.widest;
      earliest = λ vs q t p. at_both ws l (λ u v. (u.opens ≤ v.opens) × (u.closes ≤ v.closes)) vs q p
          (c.earliest (renumber_windows (inverse o) vs) (back vs q) (equal_back ws l vs q t) (o.old p));
    }
      where
        l : length ws ≡ n
        l = P-length ws c.allowed

    chosen_latest_in : (ws : List Window) → ChosenLatest k P ws → ChosenLatest (renumber o k) Q (renumber_windows o ws)
    chosen_latest_in ws c = record {
      allowed = there ws c.allowed;
      widest = widest_in ws l c.widest;
      latest = λ vs q t p. at_both ws l (λ u v. (v.opens ≤ u.opens) × (v.closes ≤ u.closes)) vs q p
          (c.latest (renumber_windows (inverse o) vs) (back vs q) (equal_back ws l vs q t) (o.old p));
    }
      where
        l : length ws ≡ n
        l = P-length ws c.allowed

  -- where the one test allows what the other allows renumbered, and there is an allowed set
  module _ (allowed renumbered : List Window → Bool) (closed : Closed k allowed) (closed' : Closed (renumber o k) renumbered)
      (there : (vs : List Window) → T (allowed vs) → T (renumbered (renumber_windows o vs)))
      (back : (vs : List Window) → T (renumbered vs) → T (allowed (renumber_windows (inverse o) vs))) (a : List Window) (t : T (allowed a)) where
    allowed_length : (vs : List Window) → T (allowed vs) → length vs ≡ n
    allowed_length vs q = (closed.shape vs q).0 ∙ e

    renumbered_length : (vs : List Window) → T (renumbered vs) → length vs ≡ n
    renumbered_length vs q = (closed'.shape vs q).0 ∙ events_renumber o k

    pub best_in : best (renumber o k) renumbered ≡ renumber_windows o (best k allowed)
    best_in = sym (chosen_best (renumber o k) renumbered closed' (renumber_windows o (best k allowed))
        (chosen_in (λ vs. T (allowed vs)) (λ vs. T (renumbered vs)) allowed_length renumbered_length there back (best k allowed) (best_chosen k allowed closed a t)))

    pub best_latest_in : best_latest (renumber o k) renumbered ≡ renumber_windows o (best_latest k allowed)
    best_latest_in = sym (chosen_best_latest (renumber o k) renumbered closed' (renumber_windows o (best_latest k allowed))
        (chosen_latest_in (λ vs. T (allowed vs)) (λ vs. T (renumbered vs)) allowed_length renumbered_length there back (best_latest k allowed)
        (best_latest_chosen k allowed closed a t)))

  -- ---- the windows of both plans

  module _ (t : T (consistent k)) where
    pub plan_windows : best (renumber o k) (fits (renumber o k)) ≡ renumber_windows o (best k (fits k))
    plan_windows =
        let w = consistent_fits k t in
        best_in (fits k) (fits (renumber o k)) (fits_closed k) (fits_closed (renumber o k)) (fits_in o k e) (fits_back o k e) w.0 w.1

    pub latest_windows : best_latest (renumber o k) (fits (renumber o k)) ≡ renumber_windows o (best_latest k (fits k))
    latest_windows =
        let w = consistent_fits k t in
        best_latest_in (fits k) (fits (renumber o k)) (fits_closed k) (fits_closed (renumber o k)) (fits_in o k e) (fits_back o k e) w.0 w.1

  -- ---- what is answered: a ticket is planned as before, under the new numbers, or refused as before

  none : replicate (events (renumber o k)) false ≡ renumber_flags o (replicate (events k) false)
  none = ap (λ m. replicate m false) (events_renumber o k) ∙ sym (reorder_replicate o false (events k))

  pub plan_same : plan (renumber o k) ≡ image_answer (renumber_state o) (plan k)
  unfolding plan
  plan_same = rw (consistent_in o k e) (by (consistent k) (λ t. t))
    where
      by : (b : Bool) → (T b → T (consistent k))
          → cond b (accepted (planned (renumber o k))) (refused 9) ≡ image_answer (renumber_state o) (cond b (accepted (planned k)) (refused 9))
      by true h = λ i. accepted (record { ticket = renumber o k; windows = plan_windows (h tt) i; flags = none i; counts = replicate 5 0 })
      by false h = refl

  pub latest_same : plan_latest (renumber o k) ≡ image_answer (renumber_state o) (plan_latest k)
  unfolding plan_latest
  latest_same = rw (consistent_in o k e) (by (consistent k) (λ t. t))
    where
      by : (b : Bool) → (T b → T (consistent k))
          → cond b (accepted (planned_latest (renumber o k))) (refused 9) ≡ image_answer (renumber_state o) (cond b (accepted (planned_latest k)) (refused 9))
      by true h = λ i. accepted (record { ticket = renumber o k; windows = latest_windows (h tt) i; flags = none i; counts = replicate 5 0 })
      by false h = refl
