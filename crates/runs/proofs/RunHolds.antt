-- The claim of a run holds: `temporal`'s theorem over runs, carried to the bytes by the round trips of `ticket`.
use Rattle.std.specs.Prelude.{◌≡◌, Bool, true, false, List, [], ◌∷◌, map, ◌≢◌, ℕ, ◌≤◌, ◌<◌, length, drop, replicate}
use Rattle.std.proofs.Math.Path.{refl, subst}
use Rattle.std.proofs.Common.{sym, ap, ◌∙◌, ⊎_elim, arith, take_at}
use borrow.Author.Tests.{lt-ltb}
use Rattle.std.proofs.Math.Dec.{T}
use Rattle.temporal.proofs.Lists.{below_or_not}
use Rattle.temporal.specs.Ticket.{Ticket, Schedule, Fit}
use Rattle.temporal.specs.Best.{Chosen}
use Rattle.temporal.specs.Plan.{State, Commitment, Answer, number as decided, flagged, plan, cause, commit}
use Rattle.temporal.specs.Run.{Valid, Readable, Acceptable, FirstCause, Place, Allowed, Answered}
use Rattle.temporal.proofs.Answers.{commit_number}
use Rattle.temporal.proofs.Causes.{acceptable, first_refuses, fit_cause}
use Rattle.temporal.specs.Run as states
use Rattle.temporal.proofs.RunHolds as states_hold
use Rattle.ticket.specs.Parser.{Cause, Out, got, refused, wholly}
use Rattle.ticket.proofs.Laws.{number_some}
use Rattle.ticket.specs.Format.{read_ticket, read_state}
use Rattle.ticket.specs.Writer.{write_ticket, write_state}
use Rattle.ticket.specs.Writing.{over}
use Rattle.ticket.specs.RoundTrip.{Bytes}
use Rattle.ticket.proofs.RoundTrip.{read_written_state, read_written, written_read, written_read_state}
use Rattle.runs.specs.Calls.{Outcome, room, without_room, accepting, answered, after_reading, planning}
use Rattle.runs.proofs.Calls.{planning_short, planning_read}
use Rattle.runs.specs.Calls.{commit_for}
use Rattle.runs.proofs.Calls.{committing_short, committing_read, commit_read_unknown, commit_read_known}
use Rattle.runs.specs.Run.{Call, asks, outcome, written, Holds, Claim, Planned, Unplanned, short, unread, impossible, Start, planned, given, Run}

pub answered_number : (out scratch : List ℕ) (a : Answer) → (answered out scratch a).number ≡ decided a
answered_number out scratch (Answer.refused r) = refl
answered_number out scratch (Answer.accepted s) = refl

-- ---- what is written is read again

pub holds_written : (s : State) → Readable s → (out scratch : List ℕ) → Holds (written (accepting s out scratch)) s
unfolding over
holds_written s r out scratch =
    ap (wholly read_state) (take_at (write_state s) (drop (length (write_state s)) out) (length (write_state s)) refl) ∙ read_written_state s r

-- ---- a commitment that is handed a readable record answers as `temporal`'s does of what the record holds

module _ (current : List ℕ) (now : State) (holds : Holds current now) (c : Call) where
  unknown_cause : room c.out c.scratch ≡ true → 4 < c.caller → cause now (asks c) ≡ 19
  unfolding cause
  unknown_cause e l = rw (e, lt-ltb 4 c.caller l)

  unknown_refused : room c.out c.scratch ≡ true → 4 < c.caller → commit now (asks c) ≡ Answer.refused 19
  unfolding commit
  unknown_refused e l = rw (unknown_cause e l)

  roomy : room c.out c.scratch ≡ true → outcome current c ≡ answered c.out c.scratch (commit now (asks c))
  roomy e =
      committing_read current c.caller c.event c.opens c.closes c.out c.scratch e
      ∙ ⊎_elim
      (λ (l : 4 < c.caller).
      commit_read_unknown current c.caller c.event c.opens c.closes c.out c.scratch l
      ∙ ap (answered c.out c.scratch) (sym (unknown_refused e l)))
      (λ (l : c.caller ≤ 4).
      commit_read_known current c.caller c.event c.opens c.closes c.out c.scratch l
      ∙ ap (after_reading c.out c.scratch (commit_for c.caller c.event c.opens c.closes)) holds
      ∙ ap (λ b. answered c.out c.scratch (commit now (record { room = b; caller = c.caller; event = c.event; opens = c.opens; closes = c.closes }))) (sym e))
      (below_or_not 4 c.caller)

  short_cause : room c.out c.scratch ≡ false → cause now (asks c) ≡ 10
  unfolding cause
  short_cause e = rw e

  short_refused : room c.out c.scratch ≡ false → commit now (asks c) ≡ Answer.refused 10
  unfolding commit
  short_refused e = rw (short_cause e)

  pub outcome_short : room c.out c.scratch ≡ false → (outcome current c).number ≡ 10
  outcome_short e = ap (λ (o : Outcome). o.number) (committing_short current c.caller c.event c.opens c.closes c.out c.scratch e)

  pub outcome_number : (outcome current c).number ≡ decided (commit now (asks c))
  outcome_number = by (room c.out c.scratch) refl
    where
      by : (b : Bool) → room c.out c.scratch ≡ b → (outcome current c).number ≡ decided (commit now (asks c))
      by true e = ap (λ (o : Outcome). o.number) (roomy e) ∙ answered_number c.out c.scratch (commit now (asks c))
      by false e = outcome_short e ∙ ap decided (sym (short_refused e))

  pub outcome_accepted : (next : State) → commit now (asks c) ≡ Answer.accepted next → outcome current c ≡ accepting next c.out c.scratch
  outcome_accepted next q = by (room c.out c.scratch) refl
    where
      by : (b : Bool) → room c.out c.scratch ≡ b → outcome current c ≡ accepting next c.out c.scratch
      by true e = roomy e ∙ ap (answered c.out c.scratch) q
      by false e = absurd (omega (arith, ap decided (sym (short_refused e) ∙ q)))

-- ---- the whole list

pub place_of : (start : State) (done : List Commitment) (now : State) (cs : List Commitment) → states.Claim start done now cs → Place start done now
place_of start done now [] h = h
place_of start done now (c ∷ cs) h = h.0

claim : (start : State) (done : List Commitment) (current : List ℕ) (now : State) (cs : List Call) → Holds current now → states.Claim start done now (map asks cs) → Claim start done current now cs
claim start done current now [] holds h = record { holds = holds; place = h }
claim start done current now (c ∷ cs) holds h =
    by (commit now (asks c)) refl (λ done' current' next. claim start done' current' next cs) h.1
  where
    place : Place start done now
    place = h.0

    by : (a : Answer) → commit now (asks c) ≡ a
        → ((done' : List Commitment) (current' : List ℕ) (next : State) → Holds current' next → states.Claim start done' next (map asks cs) → Claim start done' current' next cs)
        → Answered a
        (λ r. FirstCause now (asks c) r × states.Claim start done now (map asks cs))
        (λ next. Acceptable now (asks c) × Chosen next.ticket (Allowed next.ticket start (asks c ∷ done) now.windows) next.windows × states.Claim start (asks c ∷ done) next (map asks cs))
        → Claim start done current now (c ∷ cs)
    by (Answer.refused r) e f g = (
      record { holds = holds; place = place },
      λ n. (record { first = subst (FirstCause now (asks c)) (sym same) g.0; never = λ q. unfit (sym caused ∙ q) }, f done current now holds g.1),
      λ z. absurd (first_refuses now (asks c) r g.0 (acceptable now (asks c) (rw (sym caused ∙ z) tt))),
    )
      where
        same : (outcome current c).number ≡ r
        same = outcome_number current now holds c ∙ ap decided e

        caused : (outcome current c).number ≡ cause now (asks c)
        caused = outcome_number current now holds c ∙ commit_number now (asks c)

        unfit : cause now (asks c) ≢ 15
        unfit = fit_cause now (asks c) (states_hold.distinct now.ticket place.readable.valid) place.fit
    by (Answer.accepted next) e f g = (
      record { holds = holds; place = place },
      λ n. absurd (n (ap (λ (o : Outcome). o.number) same)),
      λ z. (
        next,
        record { acceptable = g.0; chosen = g.1; sum = ap (λ (o : Outcome). o.total) same },
        f (asks c ∷ done) (written (outcome current c)) next
            (subst (λ (o : Outcome). Holds (written o) next) (sym same) (holds_written next (place_of start (asks c ∷ done) next (map asks cs) g.2).readable c.out c.scratch))
            g.2,
      ),
    )
      where
        same : outcome current c ≡ accepting next c.out c.scratch
        same = outcome_accepted current now holds c next e

-- ---- planning

module _ (ticket out scratch : List ℕ) where
  -- what is claimed of a planning, with the list of commitments that follows it
  Start-claimed : List Call → Outcome → Type 0
  Start-claimed cs o =
      (o.number ≢ 0 → Unplanned ticket out scratch o.number)
      × (o.number ≡ 0 → (s : State) × Planned ticket o s × Claim s [] (written o) s cs)

  start_short : (cs : List Call) → room out scratch ≡ false → Start-claimed cs (without_room out scratch)
  unfolding Start-claimed
  start_short cs e = (
    λ n. short refl (λ t. subst T e t),
    λ z. absurd (omega (arith, z)),
  )

  start_unread : (cs : List Call) → room out scratch ≡ true → (cause' : Cause) → wholly read_ticket ticket ≡ refused cause'
      → Start-claimed cs (after_reading out scratch plan (refused cause'))
  unfolding Start-claimed
  start_unread cs e cause' q = (
    λ n. unread cause' refl (rw e tt) q,
    λ z. absurd (omega (arith, z, number_some cause')),
  )

  start_read : (cs : List Call) → room out scratch ≡ true → Bytes ticket → (k : Ticket) (rest : List ℕ) → wholly read_ticket ticket ≡ got k rest
      → Start-claimed cs (answered out scratch (plan k))
  unfolding Start-claimed
  start_read cs e bytes k rest q =
      by (plan k) (states_hold.run (states.planning k) (map asks cs) back.1)
    where
      back : (write_ticket k ≡ ticket) × Valid k
      back = written_read ticket k rest bytes q

      read : wholly read_ticket ticket ≡ got k []
      read = ap (wholly read_ticket) (sym back.0) ∙ read_written k back.1

      by : (a : Answer) → Answered a
          (λ r. (r ≡ 9) × ((ts : List ℕ) → ¬ Schedule k ts))
          (λ s. (s.ticket ≡ k) × ((p : ℕ) → flagged s.flags p ≡ false) × (s.counts ≡ replicate 5 0) × Chosen k (Fit k) s.windows × states.Claim s [] s (map asks cs))
          → ((answered out scratch a).number ≢ 0 → Unplanned ticket out scratch (answered out scratch a).number)
          × ((answered out scratch a).number ≡ 0 → (s : State) × Planned ticket (answered out scratch a) s × Claim s [] (written (answered out scratch a)) s cs)
      by (Answer.refused r) g = (
        λ n. impossible k g.0 (rw e tt) read g.1,
        λ z. absurd (omega (arith, z, g.0)),
      )
      by (Answer.accepted s) g = (
        λ n. absurd (n refl),
        λ z. (
          s,
          record {
            read = read ∙ ap (λ (k' : Ticket). got k' []) (sym g.0);
            free = g.1;
            counts = g.2;
            chosen = subst (λ (k' : Ticket). Chosen k' (Fit k') s.windows) (sym g.0) g.3;
            sum = refl;
          },
          claim s [] (written (accepting s out scratch)) s cs (holds_written s (place_of s [] s (map asks cs) g.4).readable out scratch) g.4,
        ),
      )

  start_holds : (cs : List Call) → Bytes ticket → Start-claimed cs (planning ticket out scratch)
  start_holds cs bytes = by_room (room out scratch) refl
    where
      by_reading : room out scratch ≡ true → (o : Out Ticket) → wholly read_ticket ticket ≡ o → Start-claimed cs (planning ticket out scratch)
      by_reading e (got k rest) q = subst (Start-claimed cs) (sym (planning_read ticket out scratch e ∙ ap (after_reading out scratch plan) q)) (start_read cs e bytes k rest q)
      by_reading e (refused cause') q = subst (Start-claimed cs) (sym (planning_read ticket out scratch e ∙ ap (after_reading out scratch plan) q)) (start_unread cs e cause' q)

      by_room : (b : Bool) → room out scratch ≡ b → Start-claimed cs (planning ticket out scratch)
      by_room true e = by_reading e (wholly read_ticket ticket) refl
      by_room false e = subst (Start-claimed cs) (sym (planning_short ticket out scratch e)) (start_short cs e)

-- the claim of 01's section "A run", at the level of bytes: one theorem for every start and every list
pub run : (start : Start) (cs : List Call) → Run start cs
unfolding Start-claimed
run (planned ticket out scratch) cs = λ bytes. start_holds ticket out scratch cs bytes
run (given current) cs = λ bytes s holds fit.
    claim s [] current s cs holds (states_hold.run (states.reading s) (map asks cs) (written_read_state current s [] bytes holds).1 fit)
