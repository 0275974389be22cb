-- Of states: two records that are the same to a device show it the same (`same_view`), and its commitments are answered the same number (`same_number`).
use Rattle.std.specs.Prelude.{◌≡◌, Bool, false, not, ◌⊎◌, T, eqb}
use Rattle.std.proofs.Math.Path.{refl, ap}
use Rattle.std.proofs.Common.{sym, subst, ◌∙◌, inl, inr, eqb-true, eq-eqb, ne_eqb}
use Rattle.std.proofs.Math.Bool.{true}
use mathlib.Core.List.{[], ◌∷◌, ◌++◌, append-nil}
use Prim.Native.Nat.{ℕ, zero, suc, ◌+◌, ◌≤◌, ◌<◌}
use native.Mathlib.Omega.{arith}
use Rattle.std.proofs.lemmas.Bool.{eqb-false}
use Rattle.temporal.proofs.Lists.{T-true, below_or_not}
use Rattle.temporal.specs.Ticket.{events, Fit, fits}
use Rattle.temporal.proofs.Ends.{fit_fits}
use Rattle.temporal.specs.Plan.{State, owner_of, Commitment, number, is_not_own, causes, first, cause, commit}
use Rattle.temporal.specs.Run.{Own, Readable}
use Rattle.temporal.proofs.RunHolds.{distinct}
use Rattle.temporal.proofs.Causes.{own, own_test, owned}
use Rattle.temporal.proofs.Answers.{commit_number}
use Rattle.viewing.specs.View.{may_see, seen_at, seen_if, seen_to, seen, write_view, view}
use Rattle.viewing.specs.Noninterference.{SameTo}

-- ---- the views

module _ (d : ℕ) (below : d ≤ 3) where
  -- to a device other than the database the test is that of the owner
  own_only : (owner : ℕ) → may_see d owner ≡ eqb owner d
  unfolding may_see
  own_only owner = rw (ne_eqb d 4 (λ e. omega arith))

  -- past the events nothing is seen
  past : (s : State) (p : ℕ) → events s.ticket < p → seen_if d s p ≡ []
  past s p l =
      rw (
        own_only (owner_of s.ticket p),
        ne_eqb (owner_of s.ticket p) d (λ e. let o = owned s.ticket d p (omega arith) e in omega (arith, l, o.0.1)),
      )

  to_past : (s : State) (n : ℕ) → events s.ticket ≤ n → seen_to n d s ≡ seen d s
  unfolding seen_to
  to_past s zero l = let e : 0 ≡ events s.ticket = omega arith in ap (λ m. seen_to m d s) e
  to_past s (suc n) l = by (λ m. to_past s n m) (below_or_not n (events s.ticket))
    where
      by : (events s.ticket ≤ n → seen_to n d s ≡ seen d s) → (n < events s.ticket) ⊎ (events s.ticket ≤ n) → seen_to (suc n) d s ≡ seen d s
      by f (inl m) = let e : suc n ≡ events s.ticket = omega arith in ap (λ k. seen_to k d s) e
      by f (inr m) = ap (λ xs. seen_to n d s ++ xs) (past s (suc n) (omega arith)) ∙ append-nil (seen_to n d s) ∙ f m

  module _ (s s' : State) (a : SameTo d s s') where
    same_at : (p : ℕ) → Own s.ticket d p → seen_at s p ≡ seen_at s' p
    same_at p o = λ i. record { event = p; entry = record { committed = a.flags p o i; window = a.windows p o i } }

    same_if : (p : ℕ) → seen_if d s p ≡ seen_if d s' p
    same_if p = by (eqb (owner_of s.ticket p) d) refl
      where
        by : (b : Bool) → eqb (owner_of s.ticket p) d ≡ b → seen_if d s p ≡ seen_if d s' p
        by true e =
            let o = owned s.ticket d p (omega arith) (eqb-true (owner_of s.ticket p) d e) in
            rw (own_only (owner_of s.ticket p), own_only (owner_of s'.ticket p), e, eq-eqb (owner_of s'.ticket p) d ((a.numbers p).0 o).1)
            (ap (λ x. x ∷ []) (same_at p o))
        by false e =
            rw (
              own_only (owner_of s.ticket p),
              own_only (owner_of s'.ticket p),
              e,
              ne_eqb (owner_of s'.ticket p) d
                  (λ q. eqb-false (owner_of s.ticket p) d e ((a.numbers p).1 (owned s'.ticket d p (omega arith) q)).1),
            )

    same_to : (n : ℕ) → seen_to n d s ≡ seen_to n d s'
    unfolding seen_to
    same_to zero = refl
    same_to (suc n) = rw (same_to n, same_if (suc n))

    -- the records may differ in the number of events: what is seen is compared past both
    pub same_seen : seen d s ≡ seen d s'
    same_seen =
        let n = events s.ticket + events s'.ticket in
        sym (to_past s n (omega arith)) ∙ same_to n ∙ to_past s' n (omega arith)

    -- of states
    pub same_view : view d s ≡ view d s'
    same_view = ap write_view same_seen

-- ---- the number answered

module _ (s s' : State) (r : Readable s) (r' : Readable s') (f : Fit s.ticket s.windows) (f' : Fit s'.ticket s'.windows) where
  same_cause : (c : Commitment) → SameTo c.caller s s' → cause s c ≡ cause s' c
  unfolding cause
  same_cause c a = by (is_not_own s.ticket c.caller c.event) (is_not_own s'.ticket c.caller c.event) refl refl
    where
      ok : fits s.ticket s.windows ≡ true
      ok = T-true (fits s.ticket s.windows) (fit_fits s.ticket (distinct s.ticket r.valid) s.windows f)

      ok' : fits s'.ticket s'.windows ≡ true
      ok' = T-true (fits s'.ticket s'.windows) (fit_fits s'.ticket (distinct s'.ticket r'.valid) s'.windows f')

      own_of : (x : State) → is_not_own x.ticket c.caller c.event ≡ false → Own x.ticket c.caller c.event
      own_of x e = own x.ticket c.caller c.event (rw e tt)

      never : (x : State) → is_not_own x.ticket c.caller c.event ≡ true → ¬ Own x.ticket c.caller c.event
      never x e o = subst (λ b. T (not b)) e (own_test x.ticket c.caller c.event o)

      by : (b b' : Bool) → is_not_own s.ticket c.caller c.event ≡ b → is_not_own s'.ticket c.caller c.event ≡ b'
          → first (causes s c) ≡ first (causes s' c)
      by true true e e' = rw (ok, ok', e, e')
      by true false e e' = absurd (never s e ((a.numbers c.event).1 (own_of s' e')))
      by false true e e' = absurd (never s' e' ((a.numbers c.event).0 (own_of s e)))
      by false false e e' = rw (ok, ok', e, e', (own_of s e).1, (own_of s' e').1, a.windows c.event (own_of s e), a.count)

  -- of states, and of the database too
  pub same_number : (c : Commitment) → SameTo c.caller s s' → number (commit s c) ≡ number (commit s' c)
  same_number c a = commit_number s c ∙ same_cause c a ∙ sym (commit_number s' c)
