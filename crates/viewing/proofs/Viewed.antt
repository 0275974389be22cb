-- The laws of what specs/Viewed defines.
use Rattle.std.specs.Prelude.{◌≡◌, refl, Bool, cond, List, [], ◌↔◌, ◌⊎◌, ◌≢◌, ℕ, ◌≤◌, ◌<◌, T, leb, ltb, length}
use Rattle.std.proofs.Common.{sym, ◌∙◌, inl, inr, ⊎_elim, arith}
use Rattle.std.proofs.Math.Path.{ap, subst}
use Rattle.std.proofs.Math.Bool.{true, false}
use Rattle.std.proofs.Math.Dec.{not_T}
use Rattle.std.proofs.Math.Seq.{take-append_seam}
use Rattle.temporal.proofs.Lists.{T-true, T-false, below_or_not}
use Rattle.temporal.specs.Ticket.{Fit, fits}
use Rattle.temporal.proofs.Ends.{fits_fit, fit_fits}
use Rattle.temporal.specs.Plan.{State, Commitment}
use Rattle.temporal.specs.Run.{Readable}
use Rattle.temporal.proofs.RunHolds.{distinct}
use Rattle.ticket.specs.Parser.{Cause, Out, number, got, refused, wholly}
use Rattle.ticket.proofs.Laws.{number_some}
use Rattle.ticket.specs.Format.{read_state}
use Rattle.ticket.specs.Writing.{over}
use Rattle.ticket.specs.RoundTrip.{Bytes}
use Rattle.ticket.proofs.RoundTrip.{written_read_state, answered}
use Rattle.runs.specs.Run.{Holds, Current}
use Rattle.viewing.specs.View.{view, read_view, Outcome, written, refusing, showing, viewed, after_reading, viewing}
use Rattle.viewing.proofs.View.{viewing_short, viewing_unknown, viewing_read, viewed_unfit, viewed_fit}
use Rattle.viewing.proofs.Laws.{length_view, view_fits, view_bytes, view_read}
use Rattle.viewing.specs.Viewed.{Shown, ViewRefused, short, unknown_caller, unread, unfit}

module _ (given : List ℕ) (caller : ℕ) (out : List ℕ) where
  abbrev answer : Outcome
  answer = viewing given caller out

  reads_on : 402 ≤ length out → caller ≤ 4 → (s : State) → Holds given s → answer ≡ viewed caller s out
  reads_on l m s h = viewing_read given caller out l m ∙ ap (after_reading caller out) h

  -- of a record that is read and whose windows are fit
  shows : 402 ≤ length out → caller ≤ 4 → (s : State) → Readable s → Holds given s → Fit s.ticket s.windows → answer ≡ showing (view caller s) out
  shows l m s r h f =
      reads_on l m s h
      ∙ viewed_fit caller s out (T-true (fits s.ticket s.windows) (fit_fits s.ticket (distinct s.ticket r.valid) s.windows f))

  pub shown_of : 402 ≤ length out → caller ≤ 4 → (s : State) → Readable s → Holds given s → Fit s.ticket s.windows → Shown given caller out answer s
  unfolding over
  shown_of l m s r h f =
      let e = shows l m s r h f in
      let w : written answer ≡ view caller s = ap written e ∙ take-append_seam (view caller s) _ in
      record {
        room = l;
        known = m;
        holds = h;
        fit = f;
        number_is = ap (λ (o : Outcome). o.number) e;
        length_is = ap (λ (o : Outcome). o.length) e ∙ length_view caller s;
        length_most = omega (arith, ap (λ (o : Outcome). o.length) e, view_fits caller s r);
        out_is = ap (λ (o : Outcome). o.out) e;
        written_is = w;
        bytes = subst Bytes (sym w) (view_bytes caller s r);
        reads = ap (wholly read_view) w ∙ view_read caller s r;
      }

  -- ---- a refusal

  refused_is : (x : ℕ) → ViewRefused given caller out x → (answer ≡ refusing x out) × (x ≢ 0)
  refused_is x (short e l) = (viewing_short given caller out l ∙ ap (λ r. refusing r out) (sym e), λ z. omega (arith, z))
  refused_is x (unknown_caller e l m) = (viewing_unknown given caller out l m ∙ ap (λ r. refusing r out) (sym e), λ z. omega (arith, z))
  refused_is x (unread c e l m q) = (
    viewing_read given caller out l m ∙ ap (after_reading caller out) q ∙ ap (λ r. refusing r out) (sym e),
    λ z. omega (arith, z, number_some c),
  )
  refused_is x (unfit s e l m h n) = (
    reads_on l m s h
        ∙ viewed_unfit caller s out
        (T-false (fits s.ticket s.windows) (not_T (fits s.ticket s.windows) (λ t. n (fits_fit s.ticket s.windows t))))
        ∙ ap (λ r. refusing r out) (sym e),
    λ z. omega (arith, z),
  )

  abbrev Zeros : Outcome → Type 0
  Zeros o = o.number ≢ 0 → (o.length ≡ 0) × (o.out ≡ out)

  -- it returns 0 for the length and leaves the output as it was, whatever was lent
  pub view_zeros : answer.number ≢ 0 → (answer.length ≡ 0) × (answer.out ≡ out)
  unfolding viewing viewed
  view_zeros = by (leb 402 (length out)) (ltb 4 caller) (wholly read_state given)
    where
      by_fit : (s : State) (b : Bool) → Zeros (cond b (showing (view caller s) out) (refusing 15 out))
      by_fit s true n = absurd (n refl)
      by_fit s false n = (refl, refl)

      by : (a b : Bool) (r : Out State) → Zeros (cond a (cond b (refusing 19 out) (after_reading caller out r)) (refusing 10 out))
      by false b r n = (refl, refl)
      by true true r n = (refl, refl)
      by true false (got s rest) n = by_fit s (fits s.ticket s.windows) n
      by true false (refused c) n = (refl, refl)

  -- ---- of any bytes

  module _ (bytes : Bytes given) where
    abbrev Decision : Type 0
    Decision = ((x : ℕ) × ViewRefused given caller out x) ⊎ ((s : State) × Shown given caller out answer s)

    decide : Decision
    decide =
        ⊎_elim
        (λ (l : length out < 402). inl (10, short refl l))
        (λ (l : 402 ≤ length out). ⊎_elim
        (λ (m : 4 < caller). inl (19, unknown_caller refl l m))
        (λ (m : caller ≤ 4). read l m (answered read_state given))
        (below_or_not 4 caller))
        (below_or_not (length out) 402)
      where
        tested : 402 ≤ length out → caller ≤ 4 → (s : State) → Holds given s → Readable s → (b : Bool) → fits s.ticket s.windows ≡ b → Decision
        tested l m s h r true e = inr (s, shown_of l m s r h (fits_fit s.ticket s.windows (rw e tt)))
        tested l m s h r false e =
            inl (15, unfit s refl l m h (λ f. subst T e (fit_fits s.ticket (distinct s.ticket r.valid) s.windows f)))

        read : 402 ≤ length out → caller ≤ 4 → ((s : State) × Holds given s) ⊎ ((c : Cause) × (wholly read_state given ≡ refused c)) → Decision
        read l m (inl r) = tested l m r.0 r.1 (written_read_state given r.0 [] bytes r.1).1 (fits r.0.ticket r.0.windows) refl
        read l m (inr r) = inl (number r.0, unread r.0 refl l m r.1)

    -- the number is x and not 0 exactly where x is the number of the first cause that applies
    pub view_refusal : (x : ℕ) → ViewRefused given caller out x ↔ ((answer.number ≡ x) × (x ≢ 0))
    view_refusal x = (
      λ f.
          let r = refused_is x f in
          (ap (λ (o : Outcome). o.number) r.0, r.1),
      λ q. by q decide,
    )
      where
        by : (answer.number ≡ x) × (x ≢ 0) → Decision → ViewRefused given caller out x
        by q (inl r) = subst (ViewRefused given caller out) (sym (ap (λ (o : Outcome). o.number) (refused_is r.0 r.1).0) ∙ q.0) r.1
        by q (inr s) = absurd (q.1 (sym q.0 ∙ s.1.number_is))

    -- and 0 exactly where the view is shown
    pub view_shown : (answer.number ≡ 0) ↔ ((s : State) × Shown given caller out answer s)
    view_shown = (λ z. by z decide, λ s. s.1.number_is)
      where
        by : answer.number ≡ 0 → Decision → (s : State) × Shown given caller out answer s
        by z (inl r) = let q = refused_is r.0 r.1 in absurd (q.1 (sym (ap (λ (o : Outcome). o.number) q.0) ∙ z))
        by z (inr s) = s

-- ---- in a run

-- the windows of a run are fit: every current record is shown to every device, and 15 is answered to no caller
pub current_shown : (start : State) (done : List Commitment) (current : List ℕ) (now : State) → Current start done current now
    → (caller : ℕ) (out : List ℕ)
    → (402 ≤ length out → caller ≤ 4 → Shown current caller out (viewing current caller out) now) × ((viewing current caller out).number ≢ 15)
current_shown start done current now c caller out = (
  shown,
  ⊎_elim
      (λ (l : length out < 402) e. omega (arith, e, ap (λ (o : Outcome). o.number) (viewing_short current caller out l)))
      (λ (l : 402 ≤ length out). ⊎_elim
      (λ (m : 4 < caller) e. omega (arith, e, ap (λ (o : Outcome). o.number) (viewing_unknown current caller out l m)))
      (λ (m : caller ≤ 4) e. omega (arith, e, (shown l m).number_is))
      (below_or_not 4 caller))
      (below_or_not (length out) 402),
)
  where
    shown : 402 ≤ length out → caller ≤ 4 → Shown current caller out (viewing current caller out) now
    shown l m = shown_of current caller out l m now c.place.readable c.holds c.place.fit
