-- Planning the latest plan (02, change 1): what it answers (`latest_answer`, `latest_unique`), that it refuses and returns as planning does (`latest_number`,
-- `latest_total`), and that "its record counts as one from anywhere": it is a start that is read, so that the theorem of a run holds of every list of
-- commitments on it (`latest_run`). Rests on Latest and RunHolds.
use Rattle.std.specs.Prelude.{◌≡◌, false, ℕ, replicate}
use Rattle.temporal.specs.Ticket.{Ticket, Fit}
use Rattle.temporal.specs.Best.{ChosenLatest}
use Rattle.temporal.specs.Plan.{State, flagged}
use Rattle.temporal.specs.Run.{Readable}

-- an accepted latest plan: the ticket's, with no flag set and every count 0; its windows are fit, the widest fit set and of these the latest; reading
-- does not refuse it
pub record LatestPlan (k : Ticket) (s : State) : Type 0 where
  pub ticket : s.ticket ≡ k
  pub free : (p : ℕ) → flagged s.flags p ≡ false
  pub counts : s.counts ≡ replicate 5 0
  pub chosen : ChosenLatest k (Fit k) s.windows
  pub readable : Readable s
  pub fit : Fit s.ticket s.windows
