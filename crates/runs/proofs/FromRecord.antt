-- The laws of what specs/FromRecord defines.
use Rattle.std.specs.Prelude.{◌≡◌, refl, true, List, [], ◌∷◌, ◌⊎◌, ℕ, ◌≤◌, ◌<◌, length, drop, replicate}
use Rattle.std.proofs.Common.{sym, ap, ◌∙◌, inl, inr, ⊎_elim, arith}
use Rattle.std.proofs.Math.Seq.{drop-append_seam}
use Rattle.temporal.proofs.Lists.{below_or_not}
use Rattle.temporal.specs.Ticket.{Ticket, events}
use Rattle.temporal.specs.Plan.{State, Answer, accepted, plan, committed, commit}
use Rattle.temporal.specs.Run.{Valid, Readable, Place}
use Rattle.temporal.specs.Run as states
use Rattle.temporal.proofs.RunHolds as states_hold
use Rattle.temporal.proofs.Answers.{plan_empty}
use Rattle.ticket.specs.Parser.{Cause, number, got, refused, wholly}
use Rattle.ticket.proofs.Laws.{number_some}
use Rattle.ticket.specs.Format.{read_ticket, read_state}
use Rattle.ticket.specs.Writer.{write_ticket, write_state}
use Rattle.ticket.specs.Writing.{over}
use Rattle.ticket.specs.RoundTrip.{Bytes}
use Rattle.ticket.proofs.RoundTrip.{read_written, written_read, written_read_state, state_forth, length_readable, answered}
use Rattle.runs.specs.Calls as calls
use Rattle.runs.specs.Calls.{Outcome, room, accepting, after_reading, planning}
use Rattle.runs.proofs.Calls.{planning_short, planning_read}
use Rattle.runs.specs.Run.{Call, asks, outcome, Holds}
use Rattle.runs.proofs.RunHolds.{outcome_accepted}
use Rattle.runs.specs.Refusals.{CommitRefused, lent_short, unknown_caller, unreadable}
use Rattle.runs.proofs.Refusals.{commit_refusal, commit_accepted, by_room, has_room, no_room}
use Rattle.runs.specs.FromRecord.{Tells}

pub accepting_tells : (s : State) → Readable s → (out scratch : List ℕ) → Tells (accepting s out scratch) s
unfolding over
accepting_tells s r out scratch = record {
  read =
      state_forth s (drop (length (write_state s)) out) r
      ∙ ap (got s) (sym (drop-append_seam (write_state s) (drop (length (write_state s)) out)));
  length_is = length_readable s r;
  total_is = refl;
}

-- ---- planning

module _ (ticket out scratch : List ℕ) where
  reads : room out scratch ≡ true → (k : Ticket) → wholly read_ticket ticket ≡ got k [] → planning ticket out scratch ≡ calls.answered out scratch (plan k)
  reads e k q = planning_read ticket out scratch e ∙ ap (after_reading out scratch plan) q

  decides : (k : Ticket) → Valid k → (a : Answer) → plan k ≡ a → (calls.answered out scratch a).number ≡ 0 → (s : State) × Tells (calls.answered out scratch a) s
  decides k v (Answer.refused r) p z = absurd (omega (arith, z, (rw p at (states_hold.run (states.planning k) [] v)).0))
  decides k v (Answer.accepted s) p z =
      let y : Place s [] s = (rw p at (states_hold.run (states.planning k) [] v)).4 in
      (s, accepting_tells s y.readable out scratch)

  pub plan_tells : Bytes ticket → (planning ticket out scratch).number ≡ 0 → (s : State) × Tells (planning ticket out scratch) s
  plan_tells bytes z = by_room out scratch
      (λ e. by_reading e (answered read_ticket ticket))
      (λ e. absurd (omega (arith, z, ap (λ (o : Outcome). o.number) (planning_short ticket out scratch e))))
    where
      by_reading : room out scratch ≡ true → ((k : Ticket) × (wholly read_ticket ticket ≡ got k [])) ⊎ ((c : Cause) × (wholly read_ticket ticket ≡ refused c))
          → (s : State) × Tells (planning ticket out scratch) s
      by_reading e (inl r) =
          let q = reads e r.0 r.1 in
          rw q (decides r.0 (written_read ticket r.0 [] bytes r.1).1 (plan r.0) refl (rw q at z))
      by_reading e (inr r) =
          let q = planning_read ticket out scratch e ∙ ap (after_reading out scratch plan) r.1 in
          absurd (omega (arith, z, ap (λ (o : Outcome). o.number) q, number_some r.0))

-- ---- a commitment

module _ (current : List ℕ) (bytes : Bytes current) (c : Call) where
  pub commit_tells : (outcome current c).number ≡ 0 → (s : State) × Tells (outcome current c) s
  commit_tells z = by_room c.out c.scratch
      (λ e. ⊎_elim
      (λ (l : 4 < c.caller). absurd (not_refused 19 (unknown_caller refl (has_room c.out c.scratch e) l)))
      (λ (l : c.caller ≤ 4). by_reading e l (answered read_state current))
      (below_or_not 4 c.caller))
      (λ e. absurd (not_refused 10 (lent_short refl (no_room c.out c.scratch e))))
    where
      not_refused : (x : ℕ) → ¬ CommitRefused current c x
      not_refused x f =
          let q = (commit_refusal current bytes c x).0 f in
          q.1 (sym q.0 ∙ z)

      by_state : (s : State) → Holds current s → (next : State) × Tells (outcome current c) next
      by_state s h =
          let a = (commit_accepted current bytes c s h).1 z in
          let r = (written_read_state current s [] bytes h).1 in
          let next = committed s (asks c) in
          let p : commit s (asks c) ≡ accepted next = (states_hold.acceptable_has_plan s r (asks c) a).0 in
          let y : Place s (asks c ∷ []) next = (rw p at (states_hold.run (states.reading s) (asks c ∷ []) r a.fit).1).2 in
          (next, rw (outcome_accepted current s h c next p) (accepting_tells next y.readable c.out c.scratch))

      by_reading : room c.out c.scratch ≡ true → c.caller ≤ 4
          → ((s : State) × Holds current s) ⊎ ((k : Cause) × (wholly read_state current ≡ refused k)) → (s : State) × Tells (outcome current c) s
      by_reading e l (inl r) = by_state r.0 r.1
      by_reading e l (inr r) = absurd (not_refused (number r.0) (unreadable r.0 refl (has_room c.out c.scratch e) l r.1))

-- ---- a ticket with no events

-- "With no events it is empty, total 0" (01, "Network, table, plan"), whatever the horizon
pub plan_nothing : (k : Ticket) → Valid k → events k ≡ 0 → (out scratch : List ℕ) → room out scratch ≡ true
    → (planning (write_ticket k) out scratch ≡ accepting (record { ticket = k; windows = []; flags = []; counts = replicate 5 0 }) out scratch)
    × ((planning (write_ticket k) out scratch).total ≡ 0)
plan_nothing k v e out scratch r =
    let p = plan_empty k v e in
    let q : planning (write_ticket k) out scratch ≡ accepting (record { ticket = k; windows = []; flags = []; counts = replicate 5 0 }) out scratch =
    reads (write_ticket k) out scratch r k (read_written k v) ∙ ap (calls.answered out scratch) p.0 in
    (q, ap (λ (o : Outcome). o.total) q ∙ p.1)
