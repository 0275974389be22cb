-- The latest plan on bytes (02, change 1): what is claimed of it and of every run of commitments on it (`RunLatest`), and that this holds (`latest_run`); that
-- it returns and refuses as planning does (`latest_as_planning`, `latest_refusal`; "number, zeros elsewhere" is `latest_zeros` in Refusals); and that length
-- and total follow from the record (`latest_tells`). A run on it is one that starts with a record from anywhere, `run (given ..)` in RunHolds.
use Rattle.std.specs.Prelude.{◌≡◌, ◌≢◌, ℕ, replicate}
use Rattle.std.proofs.Math.Bool.{false}
use mathlib.Core.List.{List, []}
use Rattle.temporal.specs.Ticket.{Fit, total}
use Rattle.temporal.specs.Best.{ChosenLatest}
use Rattle.temporal.specs.Plan.{State, flagged}
use Rattle.ticket.specs.Parser.{got, wholly}
use Rattle.ticket.specs.Format.{read_ticket}
use Rattle.ticket.specs.RoundTrip.{Bytes}
use Rattle.runs.specs.Calls.{Outcome, planning_latest}
use Rattle.runs.specs.Run.{Call, written, Claim, Unplanned}

-- ---- what is claimed

-- an accepted one: the ticket read is the ticket that the record holds; no flag is set and every count is 0; "among the widest fit sets, the one in which
-- every open and close is the greatest that any has": the windows are fit, every other fit set has at most their total, and each equally wide has every
-- open and close at the same tick or sooner; their total is returned
pub record PlannedLatest (ticket : List ℕ) (o : Outcome) (s : State) : Type 0 where
  pub read : wholly read_ticket ticket ≡ got s.ticket []
  pub free : (p : ℕ) → flagged s.flags p ≡ false
  pub counts : s.counts ≡ replicate 5 0
  pub chosen : ChosenLatest s.ticket (Fit s.ticket) s.windows
  pub sum : o.total ≡ total s.ticket s.windows

-- of a latest plan of any bytes into any output and scratch, and of any list of commitments after it: it "refuses as planning does", and "in demand 3 its
-- record counts as one from anywhere". The claim of the list is that of Run, so "Commitments on a record made this way still prefer the earliest".
abbrev pub RunLatest : (ticket out scratch : List ℕ) → List Call → Type 0
RunLatest ticket out scratch cs =
    Bytes ticket
    → ((planning_latest ticket out scratch).number ≢ 0 → Unplanned ticket out scratch (planning_latest ticket out scratch).number)
    × ((planning_latest ticket out scratch).number ≡ 0
    → (s : State) × PlannedLatest ticket (planning_latest ticket out scratch) s × Claim s [] (written (planning_latest ticket out scratch)) s cs)

-- "It borrows, returns and refuses as planning does": the second outcome is the planning's. Only the output, with its windows, may differ.
pub record AsPlanning (o p : Outcome) : Type 0 where
  pub number : o.number ≡ p.number
  pub length : o.length ≡ p.length
  pub total : o.total ≡ p.total
  pub scratch : o.scratch ≡ p.scratch
