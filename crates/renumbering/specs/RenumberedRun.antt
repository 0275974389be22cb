-- Order on the ticket does not matter (02, change 12), on bytes: of every plan and every latest plan, and of every list of commitments. The theorems are
-- `renumbered_run` and `renumbered_latest`; they rest on `runs`' SideBySide.
use Rattle.std.specs.Prelude.{◌≡◌, refl, List, [], ℕ}
use Rattle.std.proofs.Common.{ap, ◌∙◌}
use Rattle.temporal.specs.Ticket.{Ticket, events, Fit}
use Rattle.temporal.specs.Plan.{State}
use Rattle.ticket.specs.Parser.{got, wholly}
use Rattle.ticket.specs.Format.{read_ticket}
use Rattle.ticket.specs.Writer.{write_ticket, write_state}
use Rattle.ticket.specs.RoundTrip.{Bytes}
use Rattle.ticket.proofs.RoundTrip.{read_written, written_read, read_written_state, written_read_state}
use Rattle.runs.specs.Calls.{Outcome, planning, planning_latest}
use Rattle.runs.specs.Run.{Call, Holds, Start, planned, given}
use Rattle.runs.specs.SideBySide.{SideBySide, PlannedSideBySide, Carries}
use Rattle.runs.proofs.SideBySide.{side_by_side, plans_side_by_side, latest_side_by_side}
use Rattle.renumbering.specs.Order.{Order}
use Rattle.renumbering.specs.Renumber.{renumber, renumber_state, renumber_call}
use Rattle.renumbering.specs.Totals.{total_same}
use Rattle.renumbering.specs.Reading.{valid_in, readable_lengths, readable_in, size_in}
use Rattle.renumbering.specs.Plans.{plan_same, latest_same}
use Rattle.renumbering.specs.Commitments.{commit_same}

-- ---- what is claimed

module _ {n : ℕ} (o : Order n) where
  -- of two runs of which the second has every event under its new number, in its calls too: each call is answered the same number, and returns the same length
  -- and total; at each place the second's record holds what the first's holds, renumbered
  abbrev pub Renumbered : (current current' : List ℕ) → State → List Call → Type 0
  Renumbered = SideBySide (renumber_state o) (renumber_call o) (λ t. t)

  -- the same from two plans on
  abbrev pub RenumberedPlan : Outcome → Outcome → List Call → Type 0
  RenumberedPlan = PlannedSideBySide (renumber_state o) (renumber_call o) (λ t. t)

-- the other ticket is read as the one renumbered
abbrev pub OtherTicket : List ℕ → (k : Ticket) → Order (events k) → Type 0
OtherTicket ticket' k o = wholly read_ticket ticket' ≡ got (renumber o k) []

-- of every start of a run, for every order of its events
abbrev pub RenumberedRun : Start → List Call → Type 0
RenumberedRun (planned ticket out scratch) cs =
    Bytes ticket → (k : Ticket) → wholly read_ticket ticket ≡ got k [] → (o : Order (events k)) (ticket' : List ℕ) → OtherTicket ticket' k o
    → RenumberedPlan o (planning ticket out scratch) (planning ticket' out scratch) cs
RenumberedRun (given current) cs =
    Bytes current → (s : State) → Holds current s → Fit s.ticket s.windows → (o : Order (events s.ticket)) (current' : List ℕ)
    → Holds current' (renumber_state o s) → Renumbered o current current' s cs

-- and of every latest plan
abbrev pub RenumberedLatest : (ticket out scratch : List ℕ) → List Call → Type 0
RenumberedLatest ticket out scratch cs =
    Bytes ticket → (k : Ticket) → wholly read_ticket ticket ≡ got k [] → (o : Order (events k)) (ticket' : List ℕ) → OtherTicket ticket' k o
    → RenumberedPlan o (planning_latest ticket out scratch) (planning_latest ticket' out scratch) cs

-- ---- there are such tickets and records: what is written is read again

pub other_ticket : (ticket : List ℕ) → Bytes ticket → (k : Ticket) → wholly read_ticket ticket ≡ got k [] → (o : Order (events k))
    → OtherTicket (write_ticket (renumber o k)) k o
other_ticket ticket bytes k q o = read_written (renumber o k) (valid_in o k refl (written_read ticket k [] bytes q).1)

pub other_record : (current : List ℕ) → Bytes current → (s : State) → Holds current s → (o : Order (events s.ticket))
    → Holds (write_state (renumber_state o s)) (renumber_state o s)
other_record current bytes s h o = read_written_state (renumber_state o s) (readable_in o s refl (written_read_state current s [] bytes h).1)

-- ---- the theorems

carries : (k : Ticket) (o : Order (events k)) → Carries k (renumber_state o) (renumber_call o) (λ t. t)
carries k o = record {
  reads = λ s e r. readable_in o s (ap events e) r;
  sizes = λ s e r. size_in o s (ap events e) r;
  totals = λ s e r. total_same o s.ticket (ap events e) s.windows (r.windows_count ∙ ap events e);
  commits = λ s e r c. commit_same o s (readable_lengths s (ap events e) r) _;
  nothing = refl;
}

-- 02, change 12, its first sentence, for every start of a run and every list of commitments
pub renumbered_run : (start : Start) (cs : List Call) → RenumberedRun start cs
renumbered_run (planned ticket out scratch) cs = λ bytes k q o ticket' q'.
    plans_side_by_side (carries k o) out scratch cs ticket ticket' q (renumber o k) q' bytes (plan_same o k refl)
renumbered_run (given current) cs = λ bytes s h fit o current' h'. side_by_side (carries s.ticket o) current current' bytes s refl fit (h, h') cs

-- and for every latest plan
pub renumbered_latest : (ticket out scratch : List ℕ) (cs : List Call) → RenumberedLatest ticket out scratch cs
renumbered_latest ticket out scratch cs = λ bytes k q o ticket' q'.
    latest_side_by_side (carries k o) out scratch cs ticket ticket' q (renumber o k) q' bytes (latest_same o k refl)
