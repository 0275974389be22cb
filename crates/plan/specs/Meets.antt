-- What the code's inner functions leave, as far as it is settled before the scratch is cleared: the answer, the output, and the scratch past its first 2,400 numbers.
-- The laws follow the code: a refusal, an accepted call, a reading, the two doors, and the same calls with scratch of their own.
use Rattle.std.specs.Prelude.{◌≡◌, refl, List, ℕ, ◌≤◌, ◌<◌, length, Ok, Err}
use Rattle.std.proofs.Common.{sym, ap, subst, ◌∙◌}
use Rattle.temporal.specs.Ticket as temporal
use Rattle.temporal.specs.Ticket.{total}
use Rattle.temporal.specs.Plan.{State, Answer as Decision, accepted, refused, plan, plan_latest}
use Rattle.ticket.specs.Parser.{Cause, Out, number, wholly}
use Rattle.ticket.specs.Parser as parser
use Rattle.ticket.specs.Format.{read_ticket}
use Rattle.ticket.specs.Writer.{write_state}
use Rattle.ticket.specs.Writing.{content, state_of, over}
use Rattle.ticket.specs.Stored.{whole_ticket, whole_record}
use Rattle.ticket.specs.RoundTrip.{Bytes}
use Rattle.ticket.specs.Refusal.{number_of}
use Rattle.ticket.proofs.Refusals.{refusal_number}
use Rattle.ticket.specs.declared.Ticket.{Ticket}
use Rattle.ticket.specs.declared.Record.{Record}
use Rattle.ticket.specs.declared.Refusal.{Refusal}
use Rattle.causes.specs.Zeroed.{past, zeroed_rest}
use Rattle.runs.specs.Calls.{Outcome, cleared, without_room, answered, after_reading, planning, planning_latest, commit_for, commit_read, committing}
use Rattle.runs.proofs.Calls.{enough_room, no_room_out, planning_short, planning_read, planning_latest_short, planning_latest_read, committing_short, committing_read}
use Rattle.runs.proofs.Calls.{commit_read_unknown, commit_read_known}
use Rattle.runs.specs.Scratch.{Alike}
use Rattle.runs.proofs.Scratch.{read_alike, commit_read_alike}
use Rattle.ticket.proofs.Content.{read_refused, read_got, read_content}
use Rattle.causes.specs.Structs as records
use Rattle.plan.specs.Returned.{Answer, returned}

-- a is what the outcome returns, out its output; the scratch is as `before` past its first 2,400 numbers
pub record Meets (o : Outcome) (before : List ℕ) (a : Answer) (out scratch : List ℕ) : Type 0 where
  pub answer_is : a ≡ returned o
  pub output_is : out ≡ o.out
  pub rest_is : past 2400 scratch ≡ past 2400 before

-- ---- decisions

module _ {d : Decision} (out : List ℕ) {scratch : List ℕ} where
  pub meets_refused : {r : ℕ} {a : Answer} {scratch' : List ℕ} → d ≡ refused r → a ≡ record { number = r; length = 0; total = 0 } → past 2400 scratch' ≡ past 2400 scratch
      → Meets (answered out scratch d) scratch a out scratch'
  meets_refused {r} e q h = record {
    answer_is = q ∙ ap (λ x. returned (answered out scratch x)) (sym e);
    output_is = ap (λ x. (answered out scratch x).out) (sym e);
    rest_is = h;
  }

  pub meets_accepted : {s : State} {a : Answer} {out' scratch' : List ℕ} → d ≡ accepted s
      → a ≡ record { number = 0; length = length (write_state s); total = total s.ticket s.windows } → out' ≡ over (write_state s) out
      → past 2400 scratch' ≡ past 2400 scratch
      → Meets (answered out scratch d) scratch a out' scratch'
  meets_accepted e q o h = record {
    answer_is = q ∙ ap (λ x. returned (answered out scratch x)) (sym e);
    output_is = o ∙ ap (λ x. (answered out scratch x).out) (sym e);
    rest_is = h;
  }

-- ---- readings

meets_misread : {A : Type 0} (decide : A → Decision) {out scratch : List ℕ} {o : Out A} {n : ℕ} {a : Answer} → (k : Cause) × (o ≡ parser.refused k) × (n ≡ number k)
    → a ≡ record { number = n; length = 0; total = 0 } → Meets (after_reading out scratch decide o) scratch a out scratch
meets_misread decide {out} {scratch} k q = record {
  answer_is = q ∙ ap (λ m. record { number = m; length = 0; total = 0 }) k.2 ∙ ap (λ y. returned (after_reading out scratch decide y)) (sym k.1);
  output_is = ap (λ y. (after_reading out scratch decide y).out) (sym k.1);
  rest_is = refl;
}

module _ (ticket : List ℕ) where
  pub ticket_misread : (decide : temporal.Ticket → Decision) {out scratch : List ℕ} {a : Answer} {r : Refusal} → Err r ≡ whole_ticket ticket
      → a ≡ record { number = number_of r; length = 0; total = 0 } → Meets (after_reading out scratch decide (wholly read_ticket ticket)) scratch a out scratch
  ticket_misread decide e q = let k = read_refused ticket e in
      meets_misread decide (k.0, k.1, ap number_of k.2 ∙ refusal_number k.0) q

  pub ticket_meets : {t : Ticket} → Ok t ≡ whole_ticket ticket → (decide : temporal.Ticket → Decision) (out : List ℕ) {scratch : List ℕ} {a : Answer} {out' scratch' : List ℕ}
      → Meets (answered out scratch (decide (content t))) scratch a out' scratch'
      → Meets (after_reading out scratch decide (wholly read_ticket ticket)) scratch a out' scratch'
  ticket_meets e decide out {scratch} {a} {out'} {scratch'} m =
      subst (λ o. Meets o scratch a out' scratch')
      (ap (λ k. answered out scratch (decide k)) (read_content ticket e) ∙ ap (after_reading out scratch decide) (sym (read_got ticket e).2)) m

-- ---- the readings of a commitment

-- "19, caller above 4, after 10"
module _ (bytes : List ℕ) (caller event opens closes : ℕ) (out : List ℕ) {scratch : List ℕ} where
  pub caller_unknown : {a : Answer} → 4 < caller → a ≡ record { number = 19; length = 0; total = 0 }
      → Meets (commit_read bytes caller event opens closes out scratch) scratch a out scratch
  caller_unknown l q = rw (commit_read_unknown bytes caller event opens closes out scratch l) (record { answer_is = q; output_is = refl; rest_is = refl })

  module _ (known : caller ≤ 4) where
    pub record_misread : {a : Answer} {r : Refusal} → Err r ≡ whole_record bytes → a ≡ record { number = number_of r; length = 0; total = 0 }
        → Meets (commit_read bytes caller event opens closes out scratch) scratch a out scratch
    record_misread e q = let k = records.read_refused bytes e in
        rw (commit_read_known bytes caller event opens closes out scratch known)
        (meets_misread (commit_for caller event opens closes) (k.0, k.1, ap number_of k.2 ∙ refusal_number k.0) q)

    pub record_meets : {r : Record} → Ok r ≡ whole_record bytes → Bytes bytes → {a : Answer} {out' scratch' : List ℕ}
        → Meets (answered out scratch (commit_for caller event opens closes (state_of r))) scratch a out' scratch'
        → Meets (commit_read bytes caller event opens closes out scratch) scratch a out' scratch'
    record_meets e b {a} {out'} {scratch'} m =
        subst (λ o. Meets o scratch a out' scratch')
        (ap (λ s. answered out scratch (commit_for caller event opens closes s)) (records.read_state_lem bytes e b)
        ∙ ap (after_reading out scratch (commit_for caller event opens closes)) (sym (records.read_got bytes e).2)
        ∙ sym (commit_read_known bytes caller event opens closes out scratch known)) m

-- ---- the doors

-- all that a call answers and leaves
abbrev pub Whole : Outcome → Answer → List ℕ → List ℕ → Type 0
Whole o a out scratch = (a ≡ returned o) × ((out ≡ o.out) × (scratch ≡ o.scratch))

pub whole_short : (out scratch : List ℕ) {whole : Outcome} {a : Answer} → whole ≡ without_room out scratch → a ≡ record { number = 10; length = 0; total = 0 } → Whole whole a out scratch
whole_short out scratch e q = (q ∙ ap returned (sym e), (ap (λ (o : Outcome). o.out) (sym e), ap (λ (o : Outcome). o.scratch) (sym e)))

pub whole_read : (scratch : List ℕ) {whole read : Outcome} {a : Answer} {out' scratch' scratch'' : List ℕ}
    → whole ≡ read → read.scratch ≡ cleared scratch → Meets read scratch a out' scratch' → scratch'' ≡ cleared scratch' → Whole whole a out' scratch''
whole_read scratch {scratch' = scratch'} e clears m c = (
  m.answer_is ∙ ap returned (sym e),
  (
    m.output_is ∙ ap (λ (x : Outcome). x.out) (sym e),
    c ∙ zeroed_rest 2400 scratch' scratch m.rest_is ∙ sym clears ∙ ap (λ (x : Outcome). x.scratch) (sym e),
  ),
)

-- ---- a call with scratch of its own: what is answered and written does not depend on the scratch

-- the number and the output, as of scratch z
abbrev pub Told : Outcome → ℕ → List ℕ → Type 0
Told o number out = (number ≡ o.number) × (out ≡ o.out)

told_read : {s : List ℕ} {whole read read' : Outcome} {a : Answer} {out' s' : List ℕ}
    → whole ≡ read' → Alike read read' → Meets read s a out' s' → Told whole a.number out'
told_read e h m = (
  ap (λ (x : Answer). x.number) m.answer_is ∙ h.number ∙ ap (λ (x : Outcome). x.number) (sym e),
  m.output_is ∙ h.out ∙ ap (λ (x : Outcome). x.out) (sym e),
)

told_short : (out z : List ℕ) {whole : Outcome} → whole ≡ without_room out z → Told whole 10 out
told_short out z e = (ap (λ (x : Outcome). x.number) (sym e), ap (λ (x : Outcome). x.out) (sym e))

module _ (out z : List ℕ) where
  pub planned_short : (ticket : List ℕ) → length out < 1958 → Told (planning ticket out z) 10 out
  planned_short ticket l = told_short out z (planning_short ticket out z (no_room_out out z l))

  pub latest_short : (ticket : List ℕ) → length out < 1958 → Told (planning_latest ticket out z) 10 out
  latest_short ticket l = told_short out z (planning_latest_short ticket out z (no_room_out out z l))

  pub committed_short : (bytes : List ℕ) (caller event opens closes : ℕ) → length out < 1958 → Told (committing bytes caller event opens closes out z) 10 out
  committed_short bytes caller event opens closes l = told_short out z (committing_short bytes caller event opens closes out z (no_room_out out z l))

  module _ (l : 1958 ≤ length out) (m : 2400 ≤ length z) {s : List ℕ} {a : Answer} {out' s' : List ℕ} where
    pub planned_told : (ticket : List ℕ) → Meets (after_reading out s plan (wholly read_ticket ticket)) s a out' s' → Told (planning ticket out z) a.number out'
    planned_told ticket h = told_read (planning_read ticket out z (enough_room out z l m)) (read_alike out s z plan (wholly read_ticket ticket)) h

    pub latest_told : (ticket : List ℕ) → Meets (after_reading out s plan_latest (wholly read_ticket ticket)) s a out' s'
        → Told (planning_latest ticket out z) a.number out'
    latest_told ticket h = told_read (planning_latest_read ticket out z (enough_room out z l m)) (read_alike out s z plan_latest (wholly read_ticket ticket)) h

    pub committed_told : (bytes : List ℕ) (caller event opens closes : ℕ) → Meets (commit_read bytes caller event opens closes out s) s a out' s'
        → Told (committing bytes caller event opens closes out z) a.number out'
    committed_told bytes caller event opens closes h =
        told_read (committing_read bytes caller event opens closes out z (enough_room out z l m)) (commit_read_alike bytes caller event opens closes out s z) h
