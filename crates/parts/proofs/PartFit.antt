-- Fit windows for a ticket, at the device's events alone, are fit for the part (`fit_restrict`): a choice in them, with the opens for the other
-- events, is a choice in all the windows. And the way back: windows for all events from windows for each device's (`together`).
use Rattle.std.specs.Prelude.{◌≡◌, Bool, true, false, List, ◌∷◌, T, eqb, length, get_or}
use Rattle.std.proofs.Math.Path.{refl, sym, ap}
use Rattle.std.proofs.Common.{subst, ◌∙◌, arith, eqb→eq, ext_get_or}
use Rattle.std.proofs.Math.Bool.{cond}
use Prim.Native.Nat.{ℕ, zero, suc, ◌≤◌, ◌<◌}
use Rattle.std.proofs.Math.Dec.{eqb_refl}
use Rattle.std.proofs.lemmas.List.{length-map}
use Rattle.std.proofs.Math.ListN.{get_or-map}
use Rattle.temporal.proofs.Lists.{All-at, at-All, length_tab, get_d_tab, get_d_past, by_points, T-true}
use Rattle.temporal.specs.Lists.{tab}
use Rattle.temporal.specs.Ticket.{Ticket, events, time, Schedule, Window, origin, window_of, Choice, Fit}
use Rattle.parts.specs.Part.{members, point, part_ticket, restrict}
use Rattle.parts.proofs.Members.{Of, point_of, place_point, point_place}
use Rattle.parts.specs.Members.{place}
use Rattle.parts.proofs.PartDistance.{part_events, times, at_times, part_schedule}

module _ (d : ℕ) (k : Ticket) where
  pub at_restrict : (ws : List Window) (q : ℕ) → window_of (restrict d k ws) q ≡ window_of ws (point d k q)
  at_restrict ws zero = refl
  at_restrict ws (suc j) = get_or-map (window_of ws) (members d k) j 0

  pub length_restrict : (ws : List Window) → length (restrict d k ws) ≡ length (members d k)
  length_restrict ws = length-map (members d k) (window_of ws)

  -- ---- a choice for the part, and the opens elsewhere

  module _ (ws : List Window) (ts : List ℕ) where
    tick : ℕ → ℕ
    tick i = cond (eqb (get_or k.owners i 0) d) (time ts (place d k (suc i))) (window_of ws (suc i)).opens

    extend : List ℕ
    extend = tab (events k) tick

    -- at a point of the device
    extend_of : (p : ℕ) → Of d k p → time extend p ≡ time ts (place d k p)
    unfolding extend tick
    extend_of zero h = refl
    extend_of (suc i) h =
        get_d_tab (events k) tick 0 i h.0
        ∙ ap (λ b. cond b (time ts (place d k (suc i))) (window_of ws (suc i)).opens) (T-true (eqb (get_or k.owners i 0) d) (rw h.1 (eqb_refl d)))

    times_extend : length ts ≡ length (members d k) → times d k extend ≡ ts
    times_extend e = ext_get_or 0 (times d k extend) ts (len ∙ sym e) (λ j l. same j (subst (λ n. j < n) len l))
      where
        len : length (times d k extend) ≡ length (members d k)
        len = length-map (members d k) (time extend)

        same : (j : ℕ) → j < length (members d k) → time (times d k extend) (suc j) ≡ time ts (suc j)
        same j l = at_times d k extend (suc j) ∙ extend_of (point d k (suc j)) (point_of d k (suc j) l) ∙ ap (time ts) (place_point d k (suc j) l)

    extend_choice : length ws ≡ events k → ((p : ℕ) → (window_of ws p).opens ≤ (window_of ws p).closes) → Choice (restrict d k ws) ts → Choice ws extend
    unfolding extend tick
    extend_choice n o c = record {
      count = length_tab (events k) tick ∙ sym n;
      after = λ p. (between p).0;
      before = λ p. (between p).1;
    }
      where
        Between : ℕ → ℕ → Type 0
        Between p t = ((window_of ws p).opens ≤ t) × (t ≤ (window_of ws p).closes)

        chosen : (p : ℕ) → Of d k p → Between p (time ts (place d k p))
        chosen p h =
            let q : ℕ = place d k p in
            let e : window_of (restrict d k ws) q ≡ window_of ws p = at_restrict ws q ∙ ap (window_of ws) (point_place d k p h).1 in
            subst (λ (w : Window). (w.opens ≤ time ts q) × (time ts q ≤ w.closes)) e (c.after q, c.before q)

        by : (i : ℕ) → i < events k → (b : Bool) → (T b → get_or k.owners i 0 ≡ d)
            → Between (suc i) (cond b (time ts (place d k (suc i))) (window_of ws (suc i)).opens)
        by i l true t = chosen (suc i) (l, t tt)
        by i l false t = (omega arith, o (suc i))

        past : (q : ℕ) → events k < q → Between q (time extend q)
        past q l =
            rw (get_d_past (origin ∷ ws) origin q (omega arith), get_d_past (0 ∷ extend) 0 q (omega (arith, length_tab (events k) tick)))
            (omega arith, omega arith)

        between : (p : ℕ) → Between p (time extend p)
        between = by_points (λ p. Between p (time extend p)) (events k) (omega arith, omega arith)
            (λ i l. subst (Between (suc i)) (sym (get_d_tab (events k) tick 0 i l))
            (by i l (eqb (get_or k.owners i 0) d) (λ t. eqb→eq (get_or k.owners i 0) d t)))
            past

  pub fit_restrict : (ws : List Window) → Fit k ws → Fit (part_ticket d k) (restrict d k ws)
  fit_restrict ws f = record {
    count = length_restrict ws ∙ sym (part_events d k);
    ordered = at-All (λ (w : Window). w.opens ≤ w.closes) origin (restrict d k ws) (λ i. rw (at_restrict ws (suc i)) (o (point d k (suc i))));
    every = λ ts c. subst (Schedule (part_ticket d k)) (times_extend ws ts (c.count ∙ length_restrict ws))
        (part_schedule d k (extend ws ts) (f.every (extend ws ts) (extend_choice ws ts f.count o c)));
  }
    where
      o : (p : ℕ) → (window_of ws p).opens ≤ (window_of ws p).closes
      o p = All-at (λ (w : Window). w.opens ≤ w.closes) origin (omega arith) (origin ∷ ws) (omega arith, f.ordered) p

-- ---- each event its window from its device's windows

module _ (k : Ticket) (f : ℕ → List Window) where
  from : ℕ → ℕ → Window
  from i d = window_of (f d) (place d k (suc i))

  pub together : List Window
  together = tab (events k) (λ i. from i (get_or k.owners i 0))

  pub length_together : length together ≡ events k
  unfolding together
  length_together = length_tab (events k) (λ i. from i (get_or k.owners i 0))

  pub at_together : (d p : ℕ) → Of d k p → window_of together p ≡ window_of (f d) (place d k p)
  unfolding together from
  at_together d zero h = refl
  at_together d (suc i) h = get_d_tab (events k) (λ j. from j (get_or k.owners j 0)) origin i h.0 ∙ ap (from i) h.1

  pub restrict_together : (d : ℕ) → length (f d) ≡ length (members d k) → restrict d k together ≡ f d
  restrict_together d e =
      ext_get_or origin (restrict d k together) (f d) (length_restrict d k together ∙ sym e)
      (λ j l. same j (subst (λ n. j < n) (length_restrict d k together) l))
    where
      same : (j : ℕ) → j < length (members d k) → window_of (restrict d k together) (suc j) ≡ window_of (f d) (suc j)
      same j l = at_restrict d k together (suc j) ∙ at_together d (point d k (suc j)) (point_of d k (suc j) l) ∙ ap (window_of (f d)) (place_point d k (suc j) l)
