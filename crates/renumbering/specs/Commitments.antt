-- A commitment to a renumbered record is answered under the same number, and what it keeps is renumbered (`commit_same`), also where it names no event.
use Rattle.std.specs.Prelude.{◌≡◌, Bool, true, false, ◌||◌, List, [], ◌∷◌, ℕ, ◌≤◌, T, length, get_or}
use Rattle.std.proofs.Common.{sym, ap, ap₂, ◌∙◌, subst, arith}
use Rattle.std.proofs.Math.Path.{subst₃}
use Rattle.std.proofs.Math.Bool.{not}
use Rattle.std.proofs.Math.Decide.{ℕ_discrete}
use Rattle.std.proofs.Math.Dec.{ltb, eqb}
use Rattle.temporal.specs.Ticket.{Ticket, events, Window, origin, window_of}
use Rattle.temporal.specs.Best.{best}
use Rattle.temporal.specs.Plan.{State, owner_of, count_of, raise, Commitment, flagged, put, grows, window, no_event, not_inside, first, cause, committed, commit}
use Rattle.temporal.specs.FitSets.{KeepsAt, Grows}
use Rattle.temporal.proofs.FitSets.{test_grows, grows_test, grows_closed, put_same, put_other, length_put}
use Rattle.temporal.proofs.Answers.{commit_allows}
use Rattle.runs.specs.SideBySide.{image_answer}
use Rattle.runs.proofs.SideBySide.{commit_image}
use Rattle.renumbering.specs.Order.{Order, inverse, reorder, length_reorder, old_point, old_event, past_same, start_same, at_point, at_new, reorder_is, reorder_start, reorder_undo}
use Rattle.renumbering.specs.Renumber.{renumber, renumber_windows, renumber_flags, renumber_state, renumber_commitment, Lengths, events_renumber, renumber_undo}
use Rattle.renumbering.specs.Schedules.{ends_in, fits_same}
use Rattle.renumbering.specs.Plans.{best_in}

-- ---- the sets that a commitment allows

grows_in : {n : ℕ} (o : Order n) (k : Ticket) → events k ≡ n → (fs : List Bool) (old ws : List Window)
    → T (grows k fs old ws) → T (grows (renumber o k) (renumber_flags o fs) (renumber_windows o old) (renumber_windows o ws))
grows_in {n} o k e fs old ws t = grows_test (renumber o k) (renumber_flags o fs) (renumber_windows o old) (renumber_windows o ws) record {
  ends = ends_in o k e ws g.ends;
  kept = λ p l. kept p (subst (λ m. p ≤ m) (events_renumber o k) l);
}
  where
    g : Grows k fs old ws
    g = test_grows k fs old ws t

    kept : (p : ℕ) → p ≤ n → KeepsAt (flagged (renumber_flags o fs) p) (window_of (renumber_windows o old) p) (window_of (renumber_windows o ws) p)
    kept p l = subst₃ KeepsAt (sym (at_point o false fs p l)) (sym (at_point o origin old p l)) (sym (at_point o origin ws p l))
        (g.kept (o.old p) (subst (λ m. o.old p ≤ m) (sym e) (old_point o p l)))

grows_back : {n : ℕ} (o : Order n) (k : Ticket) → events k ≡ n → (fs : List Bool) → length fs ≡ n → (old : List Window) → length old ≡ n
    → (vs : List Window) → T (grows (renumber o k) (renumber_flags o fs) (renumber_windows o old) vs) → T (grows k fs old (renumber_windows (inverse o) vs))
grows_back o k e fs lf old lo vs t =
    subst₃ (λ j gs us. T (grows j gs us (renumber_windows (inverse o) vs))) (renumber_undo o k e) (reorder_undo false o fs lf) (reorder_undo origin o old lo)
    (grows_in (inverse o) (renumber o k) (events_renumber o k) (renumber_flags o fs) (renumber_windows o old) vs t)

-- ---- one event's entry

module _ {n : ℕ} {A : Type 0} (o : Order n) (d : A) where
  put_at : (xs : List A) (q : ℕ) (x : A) (p : ℕ) → q ≡ p → 1 ≤ p → p ≤ length xs → get_or (d ∷ put xs q x) p d ≡ x
  put_at xs q x p h one l = subst (λ r. get_or (d ∷ put xs r x) p d ≡ x) (sym h) (put_same d xs p x one l)

  put_in : (xs : List A) → length xs ≡ n → (q : ℕ) (x : A) → put (reorder o d xs) (o.new q) x ≡ reorder o d (put xs q x)
  put_in xs l q x = sym (reorder_is o d (put xs q x) (put (reorder o d xs) (o.new q) x)
      (length_put d (reorder o d xs) (o.new q) x ∙ length_reorder o d xs) (λ p one m. by p one m (ℕ_discrete q (o.old p))))
    where
      by : (p : ℕ) → 1 ≤ p → p ≤ n → Dec (q ≡ o.old p) → get_or (d ∷ put xs q x) (o.old p) d ≡ get_or (d ∷ put (reorder o d xs) (o.new q) x) p d
      by p one m (yes h) =
          put_at xs q x (o.old p) h (old_event o p one) (omega (arith, old_point o p m))
          ∙ sym (put_at (reorder o d xs) (o.new q) x p (ap o.new h ∙ o.new_old p) one (omega (arith, length_reorder o d xs)))
      by p one m (no h) =
          put_other d xs q x (o.old p) h ∙ sym (at_point o d xs p m)
          ∙ sym (put_other d (reorder o d xs) (o.new q) x p (λ r. h (sym (o.old_new q) ∙ ap o.old r)))

-- ---- the owner of an event, and whether there is one

module _ {n : ℕ} (o : Order n) (k : Ticket) (e : events k ≡ n) (p : ℕ) where
  pub owner_same : owner_of (renumber o k) (o.new p) ≡ owner_of k p
  owner_same = ap (λ os. get_or (5 ∷ os) (o.new p) 5) (reorder_start o 0 5 k.owners e) ∙ at_new o 5 k.owners e p

  no_event_same : no_event (renumber o k) (o.new p) ≡ no_event k p
  no_event_same = ap₂ ◌||◌ (start_same o p) (ap (λ m. ltb m (o.new p)) (events_renumber o k) ∙ past_same o p ∙ ap (λ m. ltb m p) (sym e))

-- ---- one commitment

module _ {n : ℕ} (o : Order n) (s : State) (l : Lengths n s) (c : Commitment) where
  -- the ticket, and flags and windows as `committed` has them
  abbrev k : Ticket
  k = s.ticket

  abbrev fs : List Bool
  fs = put s.flags c.event true

  abbrev old : List Window
  old = put s.windows c.event (window c)

  -- the number is the same
  pub cause_same : cause (renumber_state o s) (renumber_commitment o c) ≡ cause s c
  unfolding cause
  cause_same = λ i. first (
      (10, not c.room)
      ∷ (19, ltb 4 c.caller)
      ∷ (15, not (fits_same o k l.owners s.windows l.windows i))
      ∷ (20, no_event_same o k l.owners c.event i || not (eqb (owner_same o k l.owners c.event i) c.caller))
      ∷ (13, not_inside (window c) (at_new o origin s.windows l.windows c.event i))
      ∷ (18, eqb (count_of s (owner_same o k l.owners c.event i)) 65535)
      ∷ [])

  flags_put : put (renumber_flags o s.flags) (o.new c.event) true ≡ renumber_flags o fs
  flags_put = put_in o false s.flags l.flags c.event true

  windows_put : put (renumber_windows o s.windows) (o.new c.event) (window c) ≡ renumber_windows o old
  windows_put = put_in o origin s.windows l.windows c.event (window c)

  windows_best : T (eqb (cause s c) 0)
      → best (renumber o k) (grows (renumber o k) (renumber_flags o fs) (renumber_windows o old)) ≡ renumber_windows o (best k (grows k fs old))
  windows_best t =
      best_in o k l.owners (grows k fs old) (grows (renumber o k) (renumber_flags o fs) (renumber_windows o old)) (grows_closed k fs old)
      (grows_closed (renumber o k) (renumber_flags o fs) (renumber_windows o old)) (grows_in o k l.owners fs old)
      (grows_back o k l.owners fs (length_put false s.flags c.event true ∙ l.flags) old (length_put origin s.windows c.event (window c) ∙ l.windows))
      old (commit_allows s c t)

  committed_same : T (eqb (cause s c) 0) → committed (renumber_state o s) (renumber_commitment o c) ≡ renumber_state o (committed s c)
  committed_same t = λ i. record {
    ticket = renumber o k;
    windows = ((λ j. best (renumber o k) (grows (renumber o k) (flags_put j) (windows_put j))) ∙ windows_best t) i;
    flags = flags_put i;
    counts = raise s.counts (owner_same o k l.owners c.event i);
  }

  -- a commitment is answered as before, under the new numbers
  pub commit_same : commit (renumber_state o s) (renumber_commitment o c) ≡ image_answer (renumber_state o) (commit s c)
  commit_same = commit_image (renumber_state o) s (renumber_state o s) c (renumber_commitment o c) cause_same committed_same
