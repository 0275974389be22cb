-- A finer grid gains no width (02, change 10), on bytes: of every plan and every latest plan, and of every accepted commitment in every list of commitments.
-- The total is the one that the call returns. The theorems are `finer_run` and `finer_latest`; they rest on `runs`' theorems `run` and `latest_run`.
use Rattle.std.specs.Prelude.{◌≡◌, List, [], ◌∷◌, ◌≢◌, ℕ, ◌≤◌}
use Rattle.temporal.specs.Ticket.{Ticket, Window, Fit}
use Rattle.temporal.specs.Plan.{State, Commitment}
use Rattle.ticket.specs.Parser.{got, wholly}
use Rattle.ticket.specs.Format.{read_ticket}
use Rattle.ticket.specs.RoundTrip.{Bytes}
use Rattle.runs.specs.Calls.{Outcome, planning}
use Rattle.runs.specs.Run.{Call, asks, outcome, written, Holds, Start, planned, given}
use Rattle.rounding.specs.Grid.{FineFit, FineAllowed, NoneWider}

-- ---- what is claimed

-- of a place in a list of commitments, as in `Claim` of `runs`, and of every place to which those still to come lead: after an accepted one no set on any
-- grid that it allows is wider than the total returned
abbrev pub FinerClaim : State → List Commitment → List ℕ → State → List Call → Type 0
FinerClaim start done current now [] = Unit {0}
FinerClaim start done current now (c ∷ cs) =
    ((outcome current c).number ≢ 0 → FinerClaim start done current now cs)
    × ((outcome current c).number ≡ 0
    → (next : State) × Holds (written (outcome current c)) next
    × NoneWider next.ticket (outcome current c).total (λ q. FineAllowed q next.ticket start (asks c ∷ done) now.windows)
    × FinerClaim start (asks c ∷ done) (written (outcome current c)) next cs)

-- of a plan of the ticket with this outcome, and of the commitments after it: no set that is fit on any grid is wider than the total returned; and where the
-- plan is refused under 9, no grid has a fit set
pub record FinerPlan (ticket : List ℕ) (o : Outcome) (cs : List Call) : Type 0 where
  pub accepted : o.number ≡ 0
      → (s : State) × (wholly read_ticket ticket ≡ got s.ticket []) × Holds (written o) s
      × NoneWider s.ticket o.total (λ q. FineFit q s.ticket)
      × FinerClaim s [] (written o) s cs
  pub nine : o.number ≡ 9 → (k : Ticket) → wholly read_ticket ticket ≡ got k [] → (q : ℕ) → 1 ≤ q → (ws : List Window) → ¬ FineFit q k ws

-- of every start of a run
abbrev pub FinerRun : Start → List Call → Type 0
FinerRun (planned ticket out scratch) cs = Bytes ticket → FinerPlan ticket (planning ticket out scratch) cs
FinerRun (given current) cs = Bytes current → (s : State) → Holds current s → Fit s.ticket s.windows → FinerClaim s [] current s cs
