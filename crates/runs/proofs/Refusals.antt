-- The laws of what specs/Refusals defines.
use Rattle.std.specs.Prelude.{◌≡◌, refl, Bool, true, false, cond, List, [], ◌↔◌, ◌⊎◌, ◌≢◌, ℕ, ◌≤◌, ◌<◌, T}
use Rattle.std.proofs.Common.{sym, ap, subst, ◌∙◌, inl, inr, ⊎_elim, arith}
use Rattle.std.proofs.Math.Dec.{not_T}
use Rattle.temporal.proofs.Lists.{T-true, T-false, below_or_not}
use Rattle.temporal.specs.Ticket.{Ticket, Schedule}
use Rattle.temporal.specs.Distance.{consistent}
use Rattle.temporal.proofs.Distance.{consistent_has}
use Rattle.temporal.specs.Plan.{State, Answer, accepted, number as decision, planned, plan, plan_latest, cause}
use Rattle.temporal.specs.Run.{Acceptable, FirstCause}
use Rattle.temporal.proofs.RunHolds.{distinct}
use Rattle.temporal.proofs.Answers.{plan_refused, commit_number}
use Rattle.temporal.proofs.Causes.{cause_iff, cause_neither, acceptable, acceptable_accepted}
use Rattle.ticket.specs.Parser.{Cause, Out, number, got, refused, wholly}
use Rattle.ticket.proofs.Laws.{number_some, number_not_nine}
use Rattle.ticket.specs.Format.{read_ticket, read_state}
use Rattle.ticket.specs.RoundTrip.{Bytes}
use Rattle.ticket.proofs.RoundTrip.{written_read_state, answered}
use Rattle.ticket.proofs.Malformed.{malformed_record}
use Rattle.runs.specs.Calls as calls
use Rattle.runs.specs.Calls.{Outcome, room, without_room, after_reading}
use Rattle.runs.specs.Calls.{planning, planning_latest}
use Rattle.runs.proofs.Calls.{planning_short, planning_read}
use Rattle.runs.specs.Calls.{commit_for, commit_read, committing}
use Rattle.runs.proofs.Calls.{committing_short, committing_read, commit_read_unknown, commit_read_known}
use Rattle.runs.specs.Run.{Call, asks, outcome, Holds, Unplanned, short, unread, impossible}
use Rattle.runs.proofs.RunHolds.{answered_number, outcome_number}
use Rattle.runs.specs.Refusals.{CommitRefused, Zeros, lent_short, unknown_caller, unreadable, decided}

-- ---- planning

pub by_room : {G : Type 0} (out scratch : List ℕ) → (room out scratch ≡ true → G) → (room out scratch ≡ false → G) → G
by_room {G} out scratch f g = go (room out scratch) refl
  where
    go : (b : Bool) → room out scratch ≡ b → G
    go true e = f e
    go false e = g e

pub has_room : (out scratch : List ℕ) → room out scratch ≡ true → T (room out scratch)
has_room out scratch e = rw e tt

pub no_room : (out scratch : List ℕ) → room out scratch ≡ false → ¬ T (room out scratch)
no_room out scratch e t = subst T e t

-- a ticket's number is 0 where it has a schedule, and 9 where it has none
plan_by : (k : Ticket) → (decision (plan k) ≡ 0) ⊎ ((decision (plan k) ≡ 9) × ((ts : List ℕ) → ¬ Schedule k ts))
unfolding plan
plan_by k = go (consistent k) refl
  where
    go : (b : Bool) → consistent k ≡ b
        → (decision (cond b (accepted (planned k)) (Answer.refused 9)) ≡ 0)
        ⊎ ((decision (cond b (accepted (planned k)) (Answer.refused 9)) ≡ 9) × ((ts : List ℕ) → ¬ Schedule k ts))
    go true e = inl refl
    go false e = inr (refl, λ ts s. subst T e ((consistent_has k).1 (ts, s)))

module _ (ticket out scratch : List ℕ) where
  plan_short : room out scratch ≡ false → (planning ticket out scratch).number ≡ 10
  plan_short e = ap (λ (o : Outcome). o.number) (planning_short ticket out scratch e)

  plan_unread : (c : Cause) → room out scratch ≡ true → wholly read_ticket ticket ≡ refused c → (planning ticket out scratch).number ≡ number c
  plan_unread c e q = ap (λ (o : Outcome). o.number) (planning_read ticket out scratch e ∙ ap (after_reading out scratch plan) q)

  plan_decided : (k : Ticket) → room out scratch ≡ true → wholly read_ticket ticket ≡ got k [] → (planning ticket out scratch).number ≡ decision (plan k)
  plan_decided k e q =
      ap (λ (o : Outcome). o.number) (planning_read ticket out scratch e ∙ ap (after_reading out scratch plan) q) ∙ answered_number out scratch (plan k)

  plan_caused : (planning ticket out scratch).number ≢ 0 → Unplanned ticket out scratch (planning ticket out scratch).number
  plan_caused n = by_room out scratch
      (λ e. by_reading e (answered read_ticket ticket))
      (λ e. short (plan_short e) (no_room out scratch e))
    where
      by_schedule : room out scratch ≡ true → (k : Ticket) → wholly read_ticket ticket ≡ got k []
          → (decision (plan k) ≡ 0) ⊎ ((decision (plan k) ≡ 9) × ((ts : List ℕ) → ¬ Schedule k ts))
          → Unplanned ticket out scratch (planning ticket out scratch).number
      by_schedule e k q (inl z) = absurd (n (plan_decided k e q ∙ z))
      by_schedule e k q (inr z) = impossible k (plan_decided k e q ∙ z.0) (has_room out scratch e) q z.1

      by_reading : room out scratch ≡ true
          → ((k : Ticket) × (wholly read_ticket ticket ≡ got k [])) ⊎ ((c : Cause) × (wholly read_ticket ticket ≡ refused c))
          → Unplanned ticket out scratch (planning ticket out scratch).number
      by_reading e (inl r) = by_schedule e r.0 r.1 (plan_by r.0)
      by_reading e (inr r) = unread r.0 (plan_unread r.0 e r.1) (has_room out scratch e) r.1

  plan_is_refused : (x : ℕ) → Unplanned ticket out scratch x → ((planning ticket out scratch).number ≡ x) × (x ≢ 0)
  plan_is_refused x (short e n) = (plan_short (T-false (room out scratch) (not_T (room out scratch) n)) ∙ sym e, λ z. omega (arith, z))
  plan_is_refused x (unread c e t q) = (plan_unread c (T-true (room out scratch) t) q ∙ sym e, λ z. omega (arith, z, number_some c))
  plan_is_refused x (impossible k e t q none) =
      (plan_decided k (T-true (room out scratch) t) q ∙ ap decision (plan_refused k none) ∙ sym e, λ z. omega (arith, z))

  -- a planning's number is x and not 0 exactly where x is the number of the first cause that applies
  pub plan_refusal : (x : ℕ) → Unplanned ticket out scratch x ↔ (((planning ticket out scratch).number ≡ x) × (x ≢ 0))
  plan_refusal x = (
    plan_is_refused x,
    λ q. subst (Unplanned ticket out scratch) q.0 (plan_caused (λ z. q.1 (sym q.0 ∙ z))),
  )

-- so it is 9 exactly where a ticket is read and no schedule exists
pub plan_nine : (ticket out scratch : List ℕ)
    → ((planning ticket out scratch).number ≡ 9)
    ↔ ((k : Ticket) × T (room out scratch) × (wholly read_ticket ticket ≡ got k []) × ((ts : List ℕ) → ¬ Schedule k ts))
plan_nine ticket out scratch = (
  λ e. by ((plan_refusal ticket out scratch 9).1 (e, λ z. omega (arith, z))),
  λ q. ((plan_refusal ticket out scratch 9).0 (impossible q.0 refl q.1 q.2 q.3)).0,
)
  where
    by : Unplanned ticket out scratch 9 → (k : Ticket) × T (room out scratch) × (wholly read_ticket ticket ≡ got k []) × ((ts : List ℕ) → ¬ Schedule k ts)
    by (short e n) = absurd (omega (arith, e))
    by (unread c e t q) = absurd (number_not_nine c (sym e))
    by (impossible k e t q none) = (k, t, q, none)

-- ---- a commitment

module _ (current : List ℕ) (bytes : Bytes current) (c : Call) where
  commit_short : room c.out c.scratch ≡ false → (outcome current c).number ≡ 10
  commit_short e = ap (λ (o : Outcome). o.number) (committing_short current c.caller c.event c.opens c.closes c.out c.scratch e)

  commit_unknown : room c.out c.scratch ≡ true → 4 < c.caller → (outcome current c).number ≡ 19
  commit_unknown e l =
      ap (λ (o : Outcome). o.number)
      (committing_read current c.caller c.event c.opens c.closes c.out c.scratch e
      ∙ commit_read_unknown current c.caller c.event c.opens c.closes c.out c.scratch l)

  commit_unread : (k : Cause) → room c.out c.scratch ≡ true → c.caller ≤ 4 → wholly read_state current ≡ refused k
      → (outcome current c).number ≡ number k
  commit_unread k e l q =
      ap (λ (o : Outcome). o.number)
      (committing_read current c.caller c.event c.opens c.closes c.out c.scratch e
      ∙ commit_read_known current c.caller c.event c.opens c.closes c.out c.scratch l
      ∙ ap (after_reading c.out c.scratch (commit_for c.caller c.event c.opens c.closes)) q)

  -- the causes that it is tried for once the record is read
  commit_cause : (s : State) → Holds current s → (x : ℕ) → FirstCause s (asks c) x ↔ (((outcome current c).number ≡ x) × (x ≢ 0))
  commit_cause s h x =
      let e : (outcome current c).number ≡ cause s (asks c) = outcome_number current s h c ∙ commit_number s (asks c) in
      let i = cause_iff s (asks c) (distinct s.ticket (written_read_state current s [] bytes h).1.valid) x in
      (λ f. (e ∙ (i.0 f).0, (i.0 f).1), λ q. i.1 (sym e ∙ q.0, q.1))

  commit_caused : (x : ℕ) → (outcome current c).number ≡ x → x ≢ 0 → CommitRefused current c x
  commit_caused x q n = by_room c.out c.scratch
      (λ e. ⊎_elim
      (λ (l : 4 < c.caller). unknown_caller (sym q ∙ commit_unknown e l) (has_room c.out c.scratch e) l)
      (λ (l : c.caller ≤ 4). by_reading e l (answered read_state current))
      (below_or_not 4 c.caller))
      (λ e. lent_short (sym q ∙ commit_short e) (no_room c.out c.scratch e))
    where
      by_reading : room c.out c.scratch ≡ true → c.caller ≤ 4
          → ((s : State) × Holds current s) ⊎ ((k : Cause) × (wholly read_state current ≡ refused k)) → CommitRefused current c x
      by_reading e l (inl r) = decided r.0 (has_room c.out c.scratch e) l r.1 ((commit_cause r.0 r.1 x).1 (q, n))
      by_reading e l (inr r) = unreadable r.0 (sym q ∙ commit_unread r.0 e l r.1) (has_room c.out c.scratch e) l r.1

  commit_is_refused : (x : ℕ) → CommitRefused current c x → ((outcome current c).number ≡ x) × (x ≢ 0)
  commit_is_refused x (lent_short e n) =
      (commit_short (T-false (room c.out c.scratch) (not_T (room c.out c.scratch) n)) ∙ sym e, λ z. omega (arith, z))
  commit_is_refused x (unknown_caller e t l) = (commit_unknown (T-true (room c.out c.scratch) t) l ∙ sym e, λ z. omega (arith, z))
  commit_is_refused x (unreadable k e t l q) = (commit_unread k (T-true (room c.out c.scratch) t) l q ∙ sym e, λ z. omega (arith, z, number_some k))
  commit_is_refused x (decided s t l h f) = (commit_cause s h x).0 f

  -- a commitment's number is x and not 0 exactly where x is the number of the first cause that applies
  pub commit_refusal : (x : ℕ) → CommitRefused current c x ↔ (((outcome current c).number ≡ x) × (x ≢ 0))
  commit_refusal x = (commit_is_refused x, λ q. commit_caused x q.0 q.1)

  -- and 0 exactly where no cause applies to the record read
  pub commit_accepted : (s : State) → Holds current s → Acceptable s (asks c) ↔ ((outcome current c).number ≡ 0)
  commit_accepted s h =
      let e : (outcome current c).number ≡ cause s (asks c) = outcome_number current s h c ∙ commit_number s (asks c) in (
        λ a. e ∙ acceptable_accepted s (asks c) (distinct s.ticket (written_read_state current s [] bytes h).1.valid) a,
        λ z. acceptable s (asks c) (rw (sym e ∙ z) tt),
      )

  -- "11, which does not occur here" (02, change 11); "Refusal 12 no longer occurs" (02, change 4)
  pub commit_neither : ((outcome current c).number ≢ 11) × ((outcome current c).number ≢ 12)
  commit_neither = (
    λ e. by 11 e (omega arith) (omega arith) (λ s. (cause_neither s (asks c)).0) ((commit_refusal 11).1 (e, λ z. omega (arith, z))),
    λ e. by 12 e (omega arith) (omega arith) (λ s. (cause_neither s (asks c)).1) ((commit_refusal 12).1 (e, λ z. omega (arith, z))),
  )
    where
      by : (x : ℕ) → (outcome current c).number ≡ x → 10 < x → x < 14 → ((s : State) → cause s (asks c) ≢ x) → CommitRefused current c x → ⊥
      by x e l m n (lent_short q r) = omega (arith, q)
      by x e l m n (unknown_caller q t d) = omega (arith, q)
      by x e l m n (unreadable k q t d r) = ⊎_elim (λ h. omega (arith, q, h)) (λ h. omega (arith, q, h)) (malformed_record current k r)
      by x e l m n (decided s t d h f) = n s (sym (outcome_number current s h c ∙ commit_number s (asks c)) ∙ e)

module _ (out scratch : List ℕ) where
  zeros_short : Zeros out (without_room out scratch)
  zeros_short n = (refl, refl, refl)

  zeros_answered : (a : Answer) → Zeros out (calls.answered out scratch a)
  zeros_answered (Answer.refused r) n = (refl, refl, refl)
  zeros_answered (Answer.accepted s) n = absurd (n refl)

  zeros_read : {A : Type 0} (decide : A → Answer) (o : Out A) → Zeros out (after_reading out scratch decide o)
  zeros_read decide (got x rest) = zeros_answered (decide x)
  zeros_read decide (refused k) = λ n. (refl, refl, refl)

  zeros_by : (b : Bool) (o : Outcome) → Zeros out o → Zeros out (cond b o (without_room out scratch))
  zeros_by true o h = h
  zeros_by false o h = zeros_short

  pub plan_zeros : (ticket : List ℕ) → Zeros out (planning ticket out scratch)
  unfolding planning
  plan_zeros ticket = zeros_by (room out scratch) _ (zeros_read plan (wholly read_ticket ticket))

  -- of the latest plan (02, change 1), which "returns and refuses as planning does"
  pub latest_zeros : (ticket : List ℕ) → Zeros out (planning_latest ticket out scratch)
  unfolding planning_latest
  latest_zeros ticket = zeros_by (room out scratch) _ (zeros_read plan_latest (wholly read_ticket ticket))

  zeros_commit : (current : List ℕ) (caller event opens closes : ℕ) → Zeros out (commit_read current caller event opens closes out scratch)
  zeros_commit current caller event opens closes = ⊎_elim
      (λ (l : 4 < caller). rw (commit_read_unknown current caller event opens closes out scratch l) (λ n. (refl, refl, refl)))
      (λ (l : caller ≤ 4).
      rw (commit_read_known current caller event opens closes out scratch l) (zeros_read (commit_for caller event opens closes) (wholly read_state current)))
      (below_or_not 4 caller)

  pub commit_zeros : (current : List ℕ) (caller event opens closes : ℕ) → Zeros out (committing current caller event opens closes out scratch)
  unfolding committing
  commit_zeros current caller event opens closes = zeros_by (room out scratch) _ (zeros_commit current caller event opens closes)
