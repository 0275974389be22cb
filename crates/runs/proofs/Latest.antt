-- The laws of what specs/Latest defines.
use Rattle.std.specs.Prelude.{◌≡◌, Bool, cond, ◌↔◌, ◌⊎◌, ◌≢◌, ℕ, drop}
use Rattle.std.proofs.Math.Path.{refl, sym}
use Rattle.std.proofs.Common.{ap, subst, ◌∙◌, inl, inr, take_at}
use Rattle.std.proofs.Math.Bool.{true, false}
use mathlib.Core.List.{List, []}
use native.Mathlib.Omega.{arith}
use Rattle.std.proofs.Math.Dec.{T}
use Rattle.std.proofs.Math.ListN.{length}
use Rattle.temporal.specs.Ticket.{Ticket, Schedule, Fit}
use Rattle.temporal.specs.Distance.{consistent}
use Rattle.temporal.specs.Plan.{State, Answer, accepted, planned, plan, planned_latest, plan_latest}
use Rattle.temporal.specs.Run.{Valid, Readable, Place, Answered}
use Rattle.temporal.specs.Run as states
use Rattle.temporal.proofs.RunHolds as states_hold
use Rattle.temporal.specs.LatestRun.{LatestPlan}
use Rattle.temporal.proofs.LatestRun.{latest_answer, latest_accepted, latest_number, latest_total}
use Rattle.ticket.specs.Parser.{Cause, Out, got, refused, wholly}
use Rattle.ticket.proofs.Laws.{number_some}
use Rattle.ticket.specs.Format.{read_ticket}
use Rattle.ticket.specs.Writer.{write_state}
use Rattle.ticket.specs.Writing.{over}
use Rattle.ticket.specs.RoundTrip.{Bytes}
use Rattle.ticket.proofs.RoundTrip.{written_read, read_written_state, length_readable, answered}
use Rattle.ticket.proofs.Bytes.{state_bytes}
use Rattle.runs.specs.Calls as calls
use Rattle.runs.specs.Calls.{Outcome, room, without_room, accepting, after_reading, planning, planning_latest}
use Rattle.runs.proofs.Calls.{planning_short, planning_read, planning_latest_short, planning_latest_read}
use Rattle.runs.specs.Run.{Call, written, Claim, Unplanned, given}
use Rattle.runs.proofs.RunHolds.{answered_number, run}
use Rattle.runs.proofs.Refusals.{by_room, plan_refusal}
use Rattle.runs.specs.FromRecord.{Tells}
use Rattle.runs.proofs.FromRecord.{accepting_tells}
use Rattle.runs.specs.Latest.{AsPlanning, RunLatest}

-- ---- it refuses as planning does

module _ (ticket out scratch : List ℕ) where
  same_number : (planning_latest ticket out scratch).number ≡ (planning ticket out scratch).number
  unfolding planning_latest planning
  same_number = by (room out scratch) (wholly read_ticket ticket)
    where
      by : (b : Bool) (o : Out Ticket)
          → (cond b (after_reading out scratch plan_latest o) (without_room out scratch)).number
          ≡ (cond b (after_reading out scratch plan o) (without_room out scratch)).number
      by true (got k rest) = answered_number out scratch (plan_latest k) ∙ latest_number k ∙ sym (answered_number out scratch (plan k))
      by true (refused c) = refl
      by false o = refl

  -- it "refuses as planning does": its number is x and not 0 exactly where x is the number of the first cause that applies to a planning
  pub latest_refusal : (x : ℕ) → Unplanned ticket out scratch x ↔ (((planning_latest ticket out scratch).number ≡ x) × (x ≢ 0))
  latest_refusal x = rw same_number (plan_refusal ticket out scratch x)

-- ---- and returns as planning does

as_itself : (o : Outcome) → AsPlanning o o
as_itself o = record { number = refl; length = refl; total = refl; scratch = refl }

module _ (out scratch : List ℕ) (k : Ticket) (v : Valid k) where
  same_returned : AsPlanning (calls.answered out scratch (plan_latest k)) (calls.answered out scratch (plan k))
  unfolding plan_latest plan
  same_returned = by (consistent k) refl
    where
      by : (b : Bool) → consistent k ≡ b
          → AsPlanning (calls.answered out scratch (cond b (accepted (planned_latest k)) (Answer.refused 9)))
          (calls.answered out scratch (cond b (accepted (planned k)) (Answer.refused 9)))
      by true e =
          let t : T (consistent k) = rw e tt in
          let l : LatestPlan k (planned_latest k) = latest_accepted k v (planned_latest k) (rw e) in
          let p : Place (planned k) [] (planned k) = (rw e at (states_hold.run (states.planning k) [] v)).4 in
          record {
            number = refl;
            length = omega (
              arith,
              length_readable (planned_latest k) l.readable,
              length_readable (planned k) p.readable,
              l.readable.windows_count,
              p.readable.windows_count,
            );
            total = latest_total k (states_hold.distinct k v) t;
            scratch = refl;
          }
      by false e = as_itself _

-- "It borrows, returns and refuses as planning does"
pub latest_as_planning : (ticket out scratch : List ℕ) → Bytes ticket → AsPlanning (planning_latest ticket out scratch) (planning ticket out scratch)
latest_as_planning ticket out scratch bytes = by_room out scratch
    (λ e. rw (planning_latest_read ticket out scratch e, planning_read ticket out scratch e) (by (wholly read_ticket ticket) refl))
    (λ e. rw (planning_latest_short ticket out scratch e, planning_short ticket out scratch e) (as_itself (without_room out scratch)))
  where
    by : (o : Out Ticket) → wholly read_ticket ticket ≡ o → AsPlanning (after_reading out scratch plan_latest o) (after_reading out scratch plan o)
    by (got k rest) q = same_returned out scratch k (written_read ticket k rest bytes q).1
    by (refused c) q = as_itself _

-- ---- an accepted one

-- the ticket read, and what is kept of it
record Made (ticket out scratch : List ℕ) (s : State) : Type 0 where
  pub read : wholly read_ticket ticket ≡ got s.ticket []
  pub plan : LatestPlan s.ticket s
  pub outcome : planning_latest ticket out scratch ≡ accepting s out scratch

module _ (ticket out scratch : List ℕ) (bytes : Bytes ticket) (z : (planning_latest ticket out scratch).number ≡ 0) where
  made : (s : State) × Made ticket out scratch s
  made = by_room out scratch
      (λ e. by_reading e (answered read_ticket ticket))
      (λ e. absurd (omega (arith, z, ap (λ (o : Outcome). o.number) (planning_latest_short ticket out scratch e))))
    where
      by : (k : Ticket) → wholly read_ticket ticket ≡ got k [] → (a : Answer) → planning_latest ticket out scratch ≡ calls.answered out scratch a
          → Answered a (λ r. (r ≡ 9) × ((ts : List ℕ) → ¬ Schedule k ts)) (LatestPlan k) → (s : State) × Made ticket out scratch s
      by k q (Answer.refused r) o h = absurd (omega (arith, z, ap (λ (o : Outcome). o.number) o, h.0))
      by k q (Answer.accepted s) o h = (
        s,
        record {
          read = q ∙ ap (λ (k' : Ticket). got k' []) (sym h.ticket);
          plan = subst (λ (k' : Ticket). LatestPlan k' s) (sym h.ticket) h;
          outcome = o;
        },
      )

      by_reading : room out scratch ≡ true → ((k : Ticket) × (wholly read_ticket ticket ≡ got k [])) ⊎ ((c : Cause) × (wholly read_ticket ticket ≡ refused c))
          → (s : State) × Made ticket out scratch s
      by_reading e (inl r) = by r.0 r.1 (plan_latest r.0)
          (planning_latest_read ticket out scratch e ∙ ap (after_reading out scratch plan_latest) r.1)
          (latest_answer r.0 (written_read ticket r.0 [] bytes r.1).1)
      by_reading e (inr r) =
          let q = planning_latest_read ticket out scratch e ∙ ap (after_reading out scratch plan_latest) r.1 in
          absurd (omega (arith, z, ap (λ (o : Outcome). o.number) q, number_some r.0))

  -- "length and total follow from the record" (01, "The job"), of a latest plan too
  pub latest_tells : (s : State) × Tells (planning_latest ticket out scratch) s
  latest_tells =
      let m = made in
      (m.0, rw m.1.outcome (accepting_tells m.0 m.1.plan.readable out scratch))

-- ---- "its record counts as one from anywhere"

written_is : (s : State) (out scratch : List ℕ) → written (accepting s out scratch) ≡ write_state s
unfolding over
written_is s out scratch = take_at (write_state s) (drop (length (write_state s)) out) (length (write_state s)) refl

claimed : (s : State) → Readable s → Fit s.ticket s.windows → (out scratch : List ℕ) (cs : List Call)
    → Claim s [] (written (accepting s out scratch)) s cs
claimed s r f out scratch cs =
    subst (λ (current : List ℕ). Claim s [] current s cs) (sym (written_is s out scratch))
    (run (given (write_state s)) cs (state_bytes s r) s (read_written_state s r) f)

-- every latest plan, with every list of commitments on its record: that list's claim is the one of `run` for the bytes written, as if they came from anywhere
pub latest_run : (ticket out scratch : List ℕ) (cs : List Call) → RunLatest ticket out scratch cs
latest_run ticket out scratch cs = λ bytes. (
  λ n. (latest_refusal ticket out scratch (planning_latest ticket out scratch).number).1 (refl, n),
  λ z.
      let m = made ticket out scratch bytes z in
      let s = m.0 in
      let p = m.1.plan in (
        s,
        record {
          read = m.1.read;
          free = p.free;
          counts = p.counts;
          chosen = p.chosen;
          sum = ap (λ (o : Outcome). o.total) m.1.outcome;
        },
        subst (λ (o : Outcome). Claim s [] (written o) s cs) (sym m.1.outcome) (claimed s p.readable p.fit out scratch cs),
      ),
)
