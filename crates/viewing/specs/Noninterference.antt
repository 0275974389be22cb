-- The theorem of two records (02, change 11): "For two readable records with fit windows, outputs and scratch long enough, in which a device other than the
-- database has the same event numbers, windows, flags and commitment number, its view and the number answered to its commitment are equal." All else of the
-- records may differ. The statement stands first; the theorem is `noninterference`, last, and of states `same_view` and `same_number`.
use Rattle.std.specs.Prelude.{◌≡◌, ◌↔◌, length}
use mathlib.Core.List.{List}
use Prim.Native.Nat.{ℕ, ◌≤◌}
use Rattle.temporal.specs.Ticket.{window_of, Fit}
use Rattle.temporal.specs.Plan.{State, count_of, flagged}
use Rattle.temporal.specs.Run.{Own}
use Rattle.ticket.specs.RoundTrip.{Bytes}
use Rattle.runs.specs.Calls.{committing}
use Rattle.runs.specs.Run.{Holds}
use Rattle.viewing.specs.View.{written, viewing}

-- ---- the statement

-- the device d "has the same event numbers, windows, flags and commitment number"
pub record SameTo (d : ℕ) (s s' : State) : Type 0 where
  pub numbers : (p : ℕ) → Own s.ticket d p ↔ Own s'.ticket d p
  pub windows : (p : ℕ) → Own s.ticket d p → window_of s.windows p ≡ window_of s'.windows p
  pub flags : (p : ℕ) → Own s.ticket d p → flagged s.flags p ≡ flagged s'.flags p
  pub count : count_of s d ≡ count_of s' d

-- a readable record with fit windows, by its bytes and the state that they hold
pub record Given (given : List ℕ) (s : State) : Type 0 where
  pub bytes : Bytes given
  pub holds : Holds given s
  pub fit : Fit s.ticket s.windows

-- with "outputs and scratch long enough", whatever they hold: both records are shown, with the same length and the same bytes, and a commitment of the device,
-- whatever it asks, is answered the same number
pub record Noninterference (d : ℕ) (given given' : List ℕ) : Type 0 where
  pub shown : (out : List ℕ) → 402 ≤ length out → ((viewing given d out).number ≡ 0) × ((viewing given' d out).number ≡ 0)
  pub views : (out out' : List ℕ) → 402 ≤ length out → 402 ≤ length out'
      → ((viewing given d out).length ≡ (viewing given' d out').length) × (written (viewing given d out) ≡ written (viewing given' d out'))
  pub answers : (event opens closes : ℕ) (out scratch out' scratch' : List ℕ)
      → 1958 ≤ length out → 2400 ≤ length scratch → 1958 ≤ length out' → 2400 ≤ length scratch'
      → (committing given d event opens closes out scratch).number ≡ (committing given' d event opens closes out' scratch').number
