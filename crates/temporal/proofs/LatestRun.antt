-- The laws of what specs/LatestRun defines.
use Rattle.std.specs.Prelude.{◌≡◌, refl, Bool, true, false, cond, List, [], ◌≢◌, ℕ, T, replicate}
use Rattle.std.proofs.Common.{sym, subst, ◌∙◌, arith}
use Rattle.std.proofs.lemmas.List.{length-replicate}
use Rattle.temporal.specs.Lists.{All}
use Rattle.temporal.proofs.Lists.{T-true}
use Rattle.temporal.specs.Ticket.{Ticket, events, Distinct, Schedule, Window, Fit, fits, total}
use Rattle.temporal.proofs.Ends.{fits_fit, fit_fits, fit_schedule}
use Rattle.temporal.specs.Best.{Chosen, ChosenLatest}
use Rattle.temporal.proofs.Latest.{best_latest_chosen, chosen_latest_unique, chosen_latest_under}
use Rattle.temporal.specs.Distance.{consistent}
use Rattle.temporal.proofs.Distance.{consistent_has}
use Rattle.temporal.specs.Plan.{State, Commitment, Answer, refused, accepted, number, flagged, planned, plan, planned_latest, plan_latest, plan_for}
use Rattle.temporal.proofs.FitSets.{fits_closed, consistent_fits}
use Rattle.temporal.specs.Run.{Valid, Readable, Answered, Claim, numbers, planning, reading}
use Rattle.temporal.proofs.RunHolds.{distinct, none_set, none_counted, none_flagged, planned_chosen, run, never_unfit}
use Rattle.temporal.specs.LatestRun.{LatestPlan}

-- ---- the latest plan is the only one

pub latest_chosen : (k : Ticket) → Distinct k → T (consistent k) → ChosenLatest k (Fit k) (planned_latest k).windows
latest_chosen k d t =
    let w = consistent_fits k t in
    chosen_latest_under k (λ vs. T (fits k vs)) (Fit k) (fits_fit k) (fit_fits k d) (planned_latest k).windows
    (best_latest_chosen k (fits k) (fits_closed k) w.0 w.1)

-- what 02 says of a latest plan determines it
pub latest_unique : (k : Ticket) → Distinct k → (ws : List Window) → ChosenLatest k (Fit k) ws
    → plan_latest k ≡ accepted (record { ticket = k; windows = ws; flags = replicate (events k) false; counts = replicate 5 0 })
unfolding plan_latest
latest_unique k d ws ch =
    let t : T (consistent k) = (consistent_has k).1 (fit_schedule k ws ch.allowed) in
    let c = latest_chosen k d t in
    let e : ws ≡ (planned_latest k).windows =
    chosen_latest_unique k (Fit k) ws (planned_latest k).windows ch c (ch.allowed.count ∙ sym c.allowed.count) in
    rw (T-true (consistent k) t, e)

-- ---- what is answered

latest_plan : (k : Ticket) → Valid k → T (consistent k) → LatestPlan k (planned_latest k)
latest_plan k v t =
    let w = consistent_fits k t in
    let shape = (fits_closed k).shape (planned_latest k).windows (best_latest_chosen k (fits k) (fits_closed k) w.0 w.1).allowed in
    let ch = latest_chosen k (distinct k v) t in
    record {
      ticket = refl;
      free = none_flagged (events k);
      counts = refl;
      chosen = ch;
      readable = record {
        valid = v;
        windows_count = shape.0;
        windows_lie = shape.1;
        flags_count = length-replicate (events k) false;
        counts_count = refl;
        counts_least = λ o l. omega (arith, none_set o k.owners (events k));
        counts_most = λ o l. omega (arith, none_counted 5 o);
      };
      fit = ch.allowed;
    }

-- a ticket is refused only if it has no schedule, and under 9; otherwise it has a latest plan
pub latest_answer : (k : Ticket) → Valid k → Answered (plan_latest k) (λ r. (r ≡ 9) × ((ts : List ℕ) → ¬ Schedule k ts)) (LatestPlan k)
unfolding plan_latest
latest_answer k v = by (consistent k) refl
  where
    by : (b : Bool) → consistent k ≡ b
        → Answered (cond b (accepted (planned_latest k)) (refused 9)) (λ r. (r ≡ 9) × ((ts : List ℕ) → ¬ Schedule k ts)) (LatestPlan k)
    by true e = latest_plan k v (subst T (sym e) tt)
    by false e = (refl, λ ts s. subst T e ((consistent_has k).1 (ts, s)))

pub latest_accepted : (k : Ticket) → Valid k → (s : State) → plan_latest k ≡ accepted s → LatestPlan k s
latest_accepted k v s e = subst (λ a. Answered a (λ r. (r ≡ 9) × ((ts : List ℕ) → ¬ Schedule k ts)) (LatestPlan k)) e (latest_answer k v)

-- it "refuses as planning does"
pub latest_number : (k : Ticket) → number (plan_latest k) ≡ number (plan k)
unfolding plan_latest plan
latest_number k = by (consistent k)
  where
    by : (b : Bool) → number (cond b (accepted (planned_latest k)) (refused 9)) ≡ number (cond b (accepted (planned k)) (refused 9))
    by true = refl
    by false = refl

-- and is as wide as the earliest
pub latest_total : (k : Ticket) → Distinct k → T (consistent k) → total k (planned_latest k).windows ≡ total k (planned k).windows
latest_total k d t =
    let c = latest_chosen k d t in
    let e = planned_chosen k d t in
    omega (arith, c.widest (planned k).windows e.allowed, e.widest (planned_latest k).windows c.allowed)

-- either plan is refused under 9 alone, and reading does not refuse what it keeps
pub plan_for_lem : (late : Bool) (k : Ticket) → Valid k → Answered (plan_for late k) (λ r. r ≡ 9) Readable
plan_for_lem true k v = by (plan_latest k) (latest_answer k v)
  where
    by : (a : Answer) → Answered a (λ r. (r ≡ 9) × ((ts : List ℕ) → ¬ Schedule k ts)) (LatestPlan k) → Answered a (λ r. r ≡ 9) Readable
    by (refused r) h = h.0
    by (accepted s) h = h.readable
plan_for_lem false k v = by (plan k) (run (planning k) [] v)
  where
    by : (a : Answer)
        → Answered a (λ r. (r ≡ 9) × ((ts : List ℕ) → ¬ Schedule k ts))
        (λ s. (s.ticket ≡ k) × ((p : ℕ) → flagged s.flags p ≡ false) × (s.counts ≡ replicate 5 0) × Chosen k (Fit k) s.windows × Claim s [] s [])
        → Answered a (λ r. r ≡ 9) Readable
    by (refused r) h = h.0
    by (accepted s) h = h.4.readable

-- ---- "its record counts as one from anywhere"

-- the claim of a run, for any list of commitments on it
pub latest_run : (k : Ticket) → Valid k → (s : State) → plan_latest k ≡ accepted s → (cs : List Commitment) → Claim s [] s cs
latest_run k v s e cs =
    let r = latest_accepted k v s e in
    run (reading s) cs r.readable r.fit

-- none of them is refused under 15
pub latest_never_unfit : (k : Ticket) → Valid k → (s : State) → plan_latest k ≡ accepted s → (cs : List Commitment) → All (λ r. r ≢ 15) (numbers s cs)
latest_never_unfit k v s e cs =
    let r = latest_accepted k v s e in
    never_unfit (reading s) cs r.readable r.fit
