-- The laws of what specs/SideBySide defines.
use Rattle.std.specs.Prelude.{◌≡◌, refl, Bool, true, false, cond, List, [], ◌∷◌, map, ◌≢◌, ℕ, T, eqb, replicate}
use Rattle.std.proofs.Common.{sym, ap, subst₂, ◌∙◌, arith}
use Rattle.temporal.specs.Ticket.{Ticket, Schedule, Fit}
use Rattle.temporal.specs.Best.{Chosen}
use Rattle.temporal.specs.Plan.{State, Commitment, Answer, refused, accepted, number, flagged, plan, plan_latest, cause, committed, commit}
use Rattle.temporal.specs.Run.{Valid, Readable, Place, Answered}
use Rattle.temporal.specs.Run as states
use Rattle.temporal.proofs.RunHolds as states_hold
use Rattle.temporal.specs.LatestRun.{LatestPlan}
use Rattle.temporal.proofs.LatestRun.{latest_answer}
use Rattle.temporal.proofs.Causes.{cause_iff}
use Rattle.ticket.specs.Parser.{got, wholly}
use Rattle.ticket.specs.Format.{read_ticket}
use Rattle.ticket.specs.RoundTrip.{Bytes}
use Rattle.ticket.proofs.RoundTrip.{written_read, written_read_state, length_readable}
use Rattle.runs.specs.Calls.{Outcome, without_room, accepting, answered, after_reading, planning}
use Rattle.runs.proofs.Calls.{planning_short, planning_read}
use Rattle.runs.specs.Calls.{planning_latest}
use Rattle.runs.proofs.Calls.{planning_latest_short, planning_latest_read}
use Rattle.runs.specs.Run.{Call, asks, outcome, written}
use Rattle.runs.proofs.RunHolds.{holds_written, place_of, outcome_number, outcome_accepted}
use Rattle.runs.proofs.Refusals.{commit_zeros, by_room}
use Rattle.runs.specs.SideBySide.{Both, Carries, PlannedSideBySide, Returned, SideBySide, image_answer}

-- a commitment whose cause stays, and that keeps the image of what the other keeps where none applies
pub commit_image : (image : State → State) (s s' : State) (c c' : Commitment) → cause s' c' ≡ cause s c
    → (T (eqb (cause s c) 0) → committed s' c' ≡ image (committed s c)) → commit s' c' ≡ image_answer image (commit s c)
unfolding commit
commit_image image s s' c c' e h = rw e (by (eqb (cause s c) 0) h)
  where
    by : (b : Bool) → (T b → committed s' c' ≡ image (committed s c))
        → cond b (accepted (committed s' c')) (refused (cause s c)) ≡ image_answer image (cond b (accepted (committed s c)) (refused (cause s c)))
    by true g = ap accepted (g tt)
    by false g = refl

image_number : (image : State → State) (a : Answer) → number (image_answer image a) ≡ number a
image_number image (refused r) = refl
image_number image (accepted s) = refl

module _ {k : Ticket} {image : State → State} {turned : Call → Call} {times : ℕ → ℕ} (carries : Carries k image turned times) where
  -- ---- two outcomes

  -- of two refusals
  zeros : (o o' : Outcome) → o'.number ≡ o.number → (o.length ≡ 0) × (o.total ≡ 0) → (o'.length ≡ 0) × (o'.total ≡ 0) → Returned times o o'
  zeros o o' e z z' = record { number = e; length = z'.0 ∙ sym z.0; total = z'.1 ∙ sym (ap times z.1 ∙ carries.nothing) }

  accepted_both : (s : State) → s.ticket ≡ k → Readable s → (out scratch out' scratch' : List ℕ)
      → Returned times (accepting s out scratch) (accepting (image s) out' scratch')
  accepted_both s e r out scratch out' scratch' = record {
    number = refl;
    length = length_readable (image s) (carries.reads s e r) ∙ carries.sizes s e r ∙ sym (length_readable s r);
    total = carries.totals s e r;
  }

  -- ---- the list

  walk : (start : State) → start.ticket ≡ k → (done : List Commitment) (current current' : List ℕ) (now : State) (cs : List Call)
      → Both image turned times current current' now → states.Claim start done now (map asks cs) → SideBySide image turned times current current' now cs
  walk start e done current current' now [] both h = both
  walk start e done current current' now (c ∷ cs) both h =
      by (commit now (asks c)) refl (λ done' a b next. walk start e done' a b next cs) h.1
    where
      place : Place start done now
      place = h.0

      same : now.ticket ≡ k
      same = place.ticket ∙ e

      turned_is : commit (image now) (asks (turned c)) ≡ image_answer image (commit now (asks c))
      turned_is = carries.commits now same place.readable c

      numbers : (outcome current' (turned c)).number ≡ (outcome current c).number
      numbers =
          outcome_number current' (image now) both.1 (turned c) ∙ ap number turned_is ∙ image_number image (commit now (asks c))
          ∙ sym (outcome_number current now both.0 c)

      by : (a : Answer) → commit now (asks c) ≡ a
          → ((done' : List Commitment) (one other : List ℕ) (next : State) → Both image turned times one other next → states.Claim start done' next (map asks cs)
          → SideBySide image turned times one other next cs)
          → Answered a
          (λ r. states.FirstCause now (asks c) r × states.Claim start done now (map asks cs))
          (λ next. states.Acceptable now (asks c) × Chosen next.ticket (states.Allowed next.ticket start (asks c ∷ done) now.windows) next.windows
          × states.Claim start (asks c ∷ done) next (map asks cs))
          → SideBySide image turned times current current' now (c ∷ cs)
      by (refused r) q f g = (
        both,
        zeros (outcome current c) (outcome current' (turned c)) numbers (z.0, z.1) (z'.0, z'.1),
        λ n. f done current current' now both g.1,
        λ e'. absurd (some (sym is ∙ e')),
      )
        where
          is : (outcome current c).number ≡ r
          is = outcome_number current now both.0 c ∙ ap number q

          some : r ≢ 0
          some = ((cause_iff now (asks c) (states_hold.distinct now.ticket place.readable.valid) r).0 g.0).1

          z : ((outcome current c).length ≡ 0) × ((outcome current c).total ≡ 0) × ((outcome current c).out ≡ c.out)
          z = commit_zeros c.out c.scratch current c.caller c.event c.opens c.closes (λ e'. some (sym is ∙ e'))

          z' : ((outcome current' (turned c)).length ≡ 0) × ((outcome current' (turned c)).total ≡ 0) × ((outcome current' (turned c)).out ≡ (turned c).out)
          z' = commit_zeros (turned c).out (turned c).scratch current' (turned c).caller (turned c).event (turned c).opens (turned c).closes
              (λ e'. some (sym is ∙ sym numbers ∙ e'))
      by (accepted next) q f g = (
        both,
        subst₂ (Returned times) (sym is) (sym is') (accepted_both next here readable c.out c.scratch (turned c).out (turned c).scratch),
        λ n. absurd (n (ap (λ (o : Outcome). o.number) is)),
        λ z. (
          next,
          f (asks c ∷ done) (written (outcome current c)) (written (outcome current' (turned c))) next
              (subst₂ (λ (o o' : Outcome). Both image turned times (written o) (written o') next) (sym is) (sym is')
              (holds_written next readable c.out c.scratch, holds_written (image next) (carries.reads next here readable) (turned c).out (turned c).scratch))
              g.2,
        ),
      )
        where
          is : outcome current c ≡ accepting next c.out c.scratch
          is = outcome_accepted current now both.0 c next q

          is' : outcome current' (turned c) ≡ accepting (image next) (turned c).out (turned c).scratch
          is' = outcome_accepted current' (image now) both.1 (turned c) (image next) (turned_is ∙ ap (image_answer image) q)

          at : Place start (asks c ∷ done) next
          at = place_of start (asks c ∷ done) next (map asks cs) g.2

          readable : Readable next
          readable = at.readable

          here : next.ticket ≡ k
          here = at.ticket ∙ e

  -- from any two records whose first has fit windows
  pub side_by_side : (current current' : List ℕ) → Bytes current → (s : State) → s.ticket ≡ k → Fit s.ticket s.windows → Both image turned times current current' s
      → (cs : List Call) → SideBySide image turned times current current' s cs
  side_by_side current current' bytes s e fit both cs =
      walk s e [] current current' s cs both (states_hold.run (states.reading s) (map asks cs) (written_read_state current s [] bytes both.0).1 fit)

  -- ---- from two tickets

  -- what is kept of k, and that a refusal has a number
  abbrev Plans : Answer → Type 0
  Plans a = Answered a (λ r. r ≢ 0) (λ s. (s.ticket ≡ k) × Readable s × Fit s.ticket s.windows)

  module _ (out scratch : List ℕ) (cs : List Call) where
    by_answer : (a : Answer) → Plans a → PlannedSideBySide image turned times (answered out scratch a) (answered out scratch (image_answer image a)) cs
    by_answer (refused r) h = record {
      returned = zeros (answered out scratch (refused r)) (answered out scratch (refused r)) refl (refl, refl) (refl, refl);
      kept = λ z. absurd (h z);
    }
    by_answer (accepted s) h =
        record {
          returned = accepted_both s h.0 h.1 out scratch out scratch;
          kept = λ z. (
            s,
            walk s h.0 [] (written (accepting s out scratch)) (written (accepting (image s) out scratch)) s cs
                (holds_written s h.1 out scratch, holds_written (image s) (carries.reads s h.0 h.1) out scratch)
                (states_hold.run (states.reading s) (map asks cs) h.1 h.2),
          );
        }

    by_short : PlannedSideBySide image turned times (without_room out scratch) (without_room out scratch) cs
    by_short = record { returned = zeros (without_room out scratch) (without_room out scratch) refl (refl, refl) (refl, refl); kept = λ z. absurd (omega (arith, z)) }

    -- two tickets that are read as k and as k', and a plan that answers k' the image of what it answers k
    module _ (ticket ticket' : List ℕ) (read : wholly read_ticket ticket ≡ got k []) (k' : Ticket) (read' : wholly read_ticket ticket' ≡ got k' []) where
      by_reading : (decide : Ticket → Answer) → decide k' ≡ image_answer image (decide k) → Plans (decide k)
          → PlannedSideBySide image turned times (after_reading out scratch decide (wholly read_ticket ticket)) (after_reading out scratch decide (wholly read_ticket ticket')) cs
      by_reading decide q h = rw (read, read', q) (by_answer (decide k) h)

      pub plans_side_by_side : Bytes ticket → plan k' ≡ image_answer image (plan k)
          → PlannedSideBySide image turned times (planning ticket out scratch) (planning ticket' out scratch) cs
      plans_side_by_side bytes q = by_room out scratch
          (λ e. rw (planning_read ticket out scratch e, planning_read ticket' out scratch e) (by_reading plan q (by (plan k) (states_hold.run (states.planning k) [] v))))
          (λ e. rw (planning_short ticket out scratch e, planning_short ticket' out scratch e) by_short)
        where
          v : Valid k
          v = (written_read ticket k [] bytes read).1

          by : (a : Answer) → Answered a
              (λ r. (r ≡ 9) × ((ts : List ℕ) → ¬ Schedule k ts))
              (λ s. (s.ticket ≡ k) × ((p : ℕ) → flagged s.flags p ≡ false) × (s.counts ≡ replicate 5 0) × Chosen k (Fit k) s.windows × Place s [] s)
              → Plans a
          by (refused r) h = λ z. omega (arith, z, h.0)
          by (accepted s) h = (h.0, h.4.readable, h.4.fit)

      pub latest_side_by_side : Bytes ticket → plan_latest k' ≡ image_answer image (plan_latest k)
          → PlannedSideBySide image turned times (planning_latest ticket out scratch) (planning_latest ticket' out scratch) cs
      latest_side_by_side bytes q = by_room out scratch
          (λ e. rw (planning_latest_read ticket out scratch e, planning_latest_read ticket' out scratch e) (by_reading plan_latest q (by (plan_latest k) (latest_answer k v))))
          (λ e. rw (planning_latest_short ticket out scratch e, planning_latest_short ticket' out scratch e) by_short)
        where
          v : Valid k
          v = (written_read ticket k [] bytes read).1

          by : (a : Answer) → Answered a (λ r. (r ≡ 9) × ((ts : List ℕ) → ¬ Schedule k ts)) (LatestPlan k) → Plans a
          by (refused r) h = λ z. omega (arith, z, h.0)
          by (accepted s) h = (h.ticket, h.readable, h.fit)
