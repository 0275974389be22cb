-- The number under which a commitment is refused is that of the first cause that applies, and no commitment is refused without one (`cause_iff`).
use Rattle.std.specs.Prelude.{◌≡◌, refl, Bool, true, false, not, cond, ◌||◌, List, ◌↔◌, ◌⊎◌, ◌≢◌, ℕ, zero, suc, ◌≤◌, ◌<◌, T, eqb, ltb, get_or}
use Rattle.std.proofs.Common.{sym, subst, ◌∙◌, inl, inr, arith, lt-ltb, le-ltb, eq-eqb, ne_eqb, ltb→lt, eqb→eq}
use Rattle.std.proofs.Math.Dec.{not_T, T_not, nltb→le}
use Rattle.std.proofs.Math.Arith.{le→nltb}
use Rattle.temporal.proofs.Lists.{T-true, T-false, below_or_not, get_d_past}
use Rattle.temporal.specs.Ticket.{Ticket, events, Distinct, Window, window_of, Fit, fits}
use Rattle.temporal.proofs.Ends.{fits_fit, fit_fits}
use Rattle.temporal.specs.Plan.{State, owner_of, count_of, Commitment, window, no_event, is_not_own, not_inside, cause}
use Rattle.temporal.specs.Run.{Event, Own, Inside, Acceptable, FirstCause, short, unknown, unfit, not_own, outside, full}

-- ---- the tests of an event, of its owner and of a window

not_or : (a b : Bool) → T (not (a || b)) → T (not a) × T (not b)
not_or true b t = absurd t
not_or false b t = (tt, t)

or_not : (a b : Bool) → T (not a) → T (not b) → T (not (a || b))
or_not true b s t = s
or_not false b s t = t

not_not : (b : Bool) → T (not (not b)) → T b
not_not true t = tt
not_not false t = t

event : (k : Ticket) (p : ℕ) → T (not (no_event k p)) → Event k p
event k p t =
    let r = not_or (eqb p 0) (ltb (events k) p) t in
    let nz : p ≢ 0 = λ q. T_not (eqb p 0) r.0 (rw q tt) in
    (omega (arith, nz), nltb→le (events k) p r.1)

event_test : (k : Ticket) (p : ℕ) → Event k p → T (not (no_event k p))
event_test k p e = or_not (eqb p 0) (ltb (events k) p) (not_T (eqb p 0) (λ t. omega (arith, eqb→eq p 0 t, e))) (le→nltb (events k) p e.1)

pub own : (k : Ticket) (o p : ℕ) → T (not (is_not_own k o p)) → Own k o p
own k o p t =
    let r = not_or (no_event k p) (not (eqb (owner_of k p) o)) t in
    (event k p r.0, eqb→eq (owner_of k p) o (not_not (eqb (owner_of k p) o) r.1))

pub own_test : (k : Ticket) (o p : ℕ) → Own k o p → T (not (is_not_own k o p))
own_test k o p e = or_not (no_event k p) (not (eqb (owner_of k p) o)) (event_test k p e.0) (rw (eq-eqb (owner_of k p) o e.1) tt)

-- past the events stands 5, which is no device
pub owned : (k : Ticket) (o p : ℕ) → o ≤ 4 → owner_of k p ≡ o → Own k o p
owned k o zero l e = absurd (none e)
  where
    none : 5 ≡ o → ⊥
    none q = omega arith
owned k o (suc i) l e = ((omega arith, by (below_or_not i (events k))), e)
  where
    by : (i < events k) ⊎ (events k ≤ i) → suc i ≤ events k
    by (inl m) = omega arith
    by (inr m) = absurd (omega (arith, e, get_d_past k.owners 5 i m))

inside : (w v : Window) → T (not (not_inside w v)) → Inside w v
inside w v t =
    let r = not_or (ltb w.closes w.opens) (ltb w.opens v.opens || ltb v.closes w.closes) t in
    let q = not_or (ltb w.opens v.opens) (ltb v.closes w.closes) r.1 in
    (nltb→le w.closes w.opens r.0, nltb→le w.opens v.opens q.0, nltb→le v.closes w.closes q.1)

inside_test : (w v : Window) → Inside w v → T (not (not_inside w v))
inside_test w v i =
    or_not (ltb w.closes w.opens) (ltb w.opens v.opens || ltb v.closes w.closes) (le→nltb w.closes w.opens i.0)
    (or_not (ltb w.opens v.opens) (ltb v.closes w.closes) (le→nltb w.opens v.opens i.1) (le→nltb v.closes w.closes i.2))

-- ---- by the cause

by : (b : Bool) (m x : ℕ) (P : ℕ → Type 0) → (T b → P m) → (T (not b) → P x) → P (cond b m x)
by true m x P f g = f tt
by false m x P f g = g tt

module _ (s : State) (c : Commitment) (P : ℕ → Type 0) where
  pub by_cause : (T (not c.room) → P 10)
      → (T c.room → 4 < c.caller → P 19)
      → (T c.room → c.caller ≤ 4 → T (not (fits s.ticket s.windows)) → P 15)
      → (T c.room → c.caller ≤ 4 → T (fits s.ticket s.windows) → ¬ Own s.ticket c.caller c.event → P 20)
      → (T c.room → c.caller ≤ 4 → T (fits s.ticket s.windows) → Own s.ticket c.caller c.event
      → ¬ Inside (window c) (window_of s.windows c.event) → P 13)
      → (T c.room → c.caller ≤ 4 → T (fits s.ticket s.windows) → Own s.ticket c.caller c.event
      → Inside (window c) (window_of s.windows c.event) → count_of s (owner_of s.ticket c.event) ≡ 65535 → P 18)
      → (T c.room → c.caller ≤ 4 → T (fits s.ticket s.windows) → Own s.ticket c.caller c.event
      → Inside (window c) (window_of s.windows c.event) → count_of s (owner_of s.ticket c.event) ≢ 65535 → P 0)
      → P (cause s c)
  unfolding cause
  by_cause p10 p19 p15 p20 p13 p18 p0 =
      by (not c.room) 10 _ P p10 (λ x₀.
      let r = not_not c.room x₀ in
      by (ltb 4 c.caller) 19 _ P (λ t. p19 r (ltb→lt 4 c.caller t)) (λ x₁.
      let d = nltb→le 4 c.caller x₁ in
      by (not (fits s.ticket s.windows)) 15 _ P (p15 r d) (λ x₂.
      let f = not_not (fits s.ticket s.windows) x₂ in
      by (is_not_own s.ticket c.caller c.event) 20 _ P
      (λ t. p20 r d f (λ e. T_not (is_not_own s.ticket c.caller c.event) (own_test s.ticket c.caller c.event e) t)) (λ x₃.
      let e = own s.ticket c.caller c.event x₃ in
      by (not_inside (window c) (window_of s.windows c.event)) 13 _ P
      (λ t. p13 r d f e (λ i. T_not (not_inside (window c) (window_of s.windows c.event)) (inside_test (window c) (window_of s.windows c.event) i) t)) (λ x₄.
      let i = inside (window c) (window_of s.windows c.event) x₄ in
      let n = count_of s (owner_of s.ticket c.event) in
      by (eqb n 65535) 18 0 P (λ t. p18 r d f e i (eqb→eq n 65535 t)) (λ x₅. p0 r d f e i (λ q. T_not (eqb n 65535) x₅ (rw q tt))))))))

-- ---- the laws

accepts : {s : State} {c : Commitment} → T c.room → c.caller ≤ 4 → Fit s.ticket s.windows → Own s.ticket c.caller c.event
    → Inside (window c) (window_of s.windows c.event) → count_of s (owner_of s.ticket c.event) ≢ 65535 → Acceptable s c
accepts r l f e i n =
    record { room = r; known = l; fit = f; event = e.0; own = e.1; ordered = i.0; after = i.1; before = i.2; rises = n }

pub cause_first : (s : State) (c : Commitment) → Distinct s.ticket → FirstCause s c (cause s c) ⊎ ((cause s c ≡ 0) × Acceptable s c)
cause_first s c d = by_cause s c (λ r. FirstCause s c r ⊎ ((r ≡ 0) × Acceptable s c))
    (λ n. inl (short refl (T_not c.room n)))
    (λ r l. inl (unknown refl r l))
    (λ r l n. inl (unfit refl r l (λ f. T_not (fits s.ticket s.windows) n (fit_fits s.ticket d s.windows f))))
    (λ r l f n. inl (not_own refl r l (fits_fit s.ticket s.windows f) n))
    (λ r l f e o. inl (outside refl r l (fits_fit s.ticket s.windows f) e o))
    (λ r l f e i q. inl (full refl r l (fits_fit s.ticket s.windows f) e i q))
    (λ r l f e i n. inr (refl, accepts r l (fits_fit s.ticket s.windows f) e i n))

-- a cause and none cannot be
pub first_refuses : (s : State) (c : Commitment) (r : ℕ) → FirstCause s c r → ¬ Acceptable s c
first_refuses s c r (short e n) a = n a.room
first_refuses s c r (unknown e x l) a = omega (arith, l, a.known)
first_refuses s c r (unfit e x l n) a = n a.fit
first_refuses s c r (not_own e x l f n) a = n (a.event, a.own)
first_refuses s c r (outside e x l f v n) a = n (a.ordered, a.after, a.before)
first_refuses s c r (full e x l f v i q) a = a.rises q

-- with fit windows it is not 15
pub fit_cause : (s : State) (c : Commitment) → Distinct s.ticket → Fit s.ticket s.windows → cause s c ≢ 15
fit_cause s c d f = by_cause s c (λ r. r ≢ 15)
    (λ n q. omega arith)
    (λ r l q. omega arith)
    (λ r l n. absurd (T_not (fits s.ticket s.windows) n (fit_fits s.ticket d s.windows f)))
    (λ r l g n q. omega arith)
    (λ r l g e o q. omega arith)
    (λ r l g e i x q. omega arith)
    (λ r l g e i n q. omega arith)

-- it is neither 11 (02, change 11) nor 12 (02, change 4)
pub cause_neither : (s : State) (c : Commitment) → (cause s c ≢ 11) × (cause s c ≢ 12)
cause_neither s c = by_cause s c (λ r. (r ≢ 11) × (r ≢ 12))
    (λ n. (λ q. omega arith, λ q. omega arith))
    (λ r l. (λ q. omega arith, λ q. omega arith))
    (λ r l n. (λ q. omega arith, λ q. omega arith))
    (λ r l g n. (λ q. omega arith, λ q. omega arith))
    (λ r l g e o. (λ q. omega arith, λ q. omega arith))
    (λ r l g e i x. (λ q. omega arith, λ q. omega arith))
    (λ r l g e i n. (λ q. omega arith, λ q. omega arith))

pub acceptable : (s : State) (c : Commitment) → T (eqb (cause s c) 0) → Acceptable s c
acceptable s c = by_cause s c (λ r. T (eqb r 0) → Acceptable s c)
    (λ n z. absurd z)
    (λ r l z. absurd z)
    (λ r l n z. absurd z)
    (λ r l f n z. absurd z)
    (λ r l f e o z. absurd z)
    (λ r l f e i q z. absurd z)
    (λ r l f e i n z. accepts r l (fits_fit s.ticket s.windows f) e i n)

-- of two rows of tests that begin alike the second gives 0 where the first does, if so does what comes after their beginning
past_first : (b : Bool) (r x y : ℕ) → (x ≡ 0 → y ≡ 0) → cond b r x ≡ 0 → cond b r y ≡ 0
past_first true r x y h e = e
past_first false r x y h e = h e

-- of the counts only 65,535 of the event's owner is a cause
pub cause_counts : (s : State) (c : Commitment) (ns : List ℕ) → get_or ns (owner_of s.ticket c.event) 0 ≢ 65535 → cause s c ≡ 0
    → cause (record { ticket = s.ticket; windows = s.windows; flags = s.flags; counts = ns }) c ≡ 0
unfolding cause
cause_counts s c ns n =
    past_first (not c.room) 10 _ _
    (past_first (ltb 4 c.caller) 19 _ _
    (past_first (not (fits s.ticket s.windows)) 15 _ _
    (past_first (is_not_own s.ticket c.caller c.event) 20 _ _
    (past_first (not_inside (window c) (window_of s.windows c.event)) 13 _ _
    (λ e. rw (ne_eqb (get_or ns (owner_of s.ticket c.event) 0) 65535 n))))))

-- no commitment is refused without a cause
pub acceptable_accepted : (s : State) (c : Commitment) → Distinct s.ticket → Acceptable s c → cause s c ≡ 0
acceptable_accepted s c d a = go (cause_first s c d)
  where
    go : FirstCause s c (cause s c) ⊎ ((cause s c ≡ 0) × Acceptable s c) → cause s c ≡ 0
    go (inl f) = absurd (first_refuses s c (cause s c) f a)
    go (inr e) = e.0

-- ---- a refusal has a cause: "A causeless refusal is not allowed" (01, "Where a paper is sent back")

holds_if : (b : Bool) → ¬ T (not b) → T b
holds_if true n = tt
holds_if false n = absurd (n tt)

first_is : (s : State) (c : Commitment) (x : ℕ) → Distinct s.ticket → FirstCause s c x → (cause s c ≡ x) × (x ≢ 0)
unfolding cause
first_is s c x d f = by f
  where
    room : T c.room → c.room ≡ true
    room r = T-true c.room r

    fit : Fit s.ticket s.windows → fits s.ticket s.windows ≡ true
    fit g = T-true (fits s.ticket s.windows) (fit_fits s.ticket d s.windows g)

    known : c.caller ≤ 4 → ltb 4 c.caller ≡ false
    known l = le-ltb 4 c.caller l

    is_own : Own s.ticket c.caller c.event → is_not_own s.ticket c.caller c.event ≡ false
    is_own v = T-false (is_not_own s.ticket c.caller c.event) (own_test s.ticket c.caller c.event v)

    by : FirstCause s c x → (cause s c ≡ x) × (x ≢ 0)
    by (short e n) = (rw (T-false c.room (not_T c.room n)) (sym e), λ z. omega (arith, z))
    by (unknown e r l) = (rw (room r, lt-ltb 4 c.caller l) (sym e), λ z. omega (arith, z))
    by (unfit e r l n) = (
      rw (room r, known l, T-false (fits s.ticket s.windows) (not_T (fits s.ticket s.windows) (λ t. n (fits_fit s.ticket s.windows t)))) (sym e),
      λ z. omega (arith, z),
    )
    by (not_own e r l g n) = (
      rw (
        room r,
        known l,
        fit g,
        T-true (is_not_own s.ticket c.caller c.event)
            (holds_if (is_not_own s.ticket c.caller c.event) (λ t. n (own s.ticket c.caller c.event t))),
      ) (sym e),
      λ z. omega (arith, z),
    )
    by (outside e r l g v n) = (
      rw (
        room r,
        known l,
        fit g,
        is_own v,
        T-true (not_inside (window c) (window_of s.windows c.event))
            (holds_if (not_inside (window c) (window_of s.windows c.event)) (λ u. n (inside (window c) (window_of s.windows c.event) u))),
      ) (sym e),
      λ z. omega (arith, z),
    )
    by (full e r l g v i q) = (
      rw (
        room r,
        known l,
        fit g,
        is_own v,
        T-false (not_inside (window c) (window_of s.windows c.event)) (inside_test (window c) (window_of s.windows c.event) i),
        eq-eqb (count_of s (owner_of s.ticket c.event)) 65535 q,
      ) (sym e),
      λ z. omega (arith, z),
    )

-- a commitment's number is x and not 0 exactly where x is the number of the first cause that applies
pub cause_iff : (s : State) (c : Commitment) → Distinct s.ticket → (x : ℕ) → FirstCause s c x ↔ ((cause s c ≡ x) × (x ≢ 0))
cause_iff s c d x = (first_is s c x d, back)
  where
    back : (cause s c ≡ x) × (x ≢ 0) → FirstCause s c x
    back q = go (cause_first s c d)
      where
        go : FirstCause s c (cause s c) ⊎ ((cause s c ≡ 0) × Acceptable s c) → FirstCause s c x
        go (inl f) = subst (FirstCause s c) q.0 f
        go (inr e) = absurd (q.1 (sym q.0 ∙ e.0))
