-- What is claimed of a run at the level of bytes: 01's section "A run", with changes 4, 5 and 11 of 02, for any start and any list of commitments, in
-- one statement; a list may name an event again, and the last window named counts.
-- What a record's bytes hold is said by `ticket`'s reading; `temporal` says what a place, an allowed set and the chosen set are.
use Rattle.std.specs.Prelude.{◌≡◌, false, List, [], ◌∷◌, ◌≢◌, ℕ, T, take, replicate}
use Rattle.temporal.specs.Ticket.{Ticket, Schedule, Fit, total}
use Rattle.temporal.specs.Best.{Chosen}
use Rattle.temporal.specs.Plan.{State, Commitment, flagged}
use Rattle.temporal.specs.Run.{Acceptable, FirstCause, Place, Allowed}
use Rattle.ticket.specs.Parser.{Cause, number, got, refused, wholly}
use Rattle.ticket.specs.Format.{read_ticket, read_state}
use Rattle.ticket.specs.RoundTrip.{Bytes}
use Rattle.runs.specs.Calls.{Outcome, room, planning, committing}

-- ---- the calls of a run

-- what one commitment brings: numbers of any value, an output and scratch of any length and content
pub record Call : Type 0 where
  pub caller : ℕ
  pub event : ℕ
  pub opens : ℕ
  pub closes : ℕ
  pub out : List ℕ
  pub scratch : List ℕ

-- the same, with of output and scratch only whether they are long enough
abbrev pub asks : Call → Commitment
asks c = record { room = room c.out c.scratch; caller = c.caller; event = c.event; opens = c.opens; closes = c.closes }

-- the outcome of the call that is handed the current record
abbrev pub outcome : List ℕ → Call → Outcome
outcome current c = committing current c.caller c.event c.opens c.closes c.out c.scratch

-- what a call wrote: as many bytes of its output as the length returned
abbrev pub written : Outcome → List ℕ
written o = take o.length o.out

-- ---- a place: `start` is what the first record holds, `done` the accepted commitments up to there, the latest first

-- reading does not refuse the bytes, and s is what they hold
abbrev pub Holds : List ℕ → State → Type 0
Holds bytes s = wholly read_state bytes ≡ got s []

-- the current record is readable; the state that it holds has the start's ticket, the flags of the committed events and no others, each
-- count the start's plus that device's acceptances, and fit windows with the committed ones as said
pub record Current (start : State) (done : List Commitment) (current : List ℕ) (now : State) : Type 0 where
  pub holds : Holds current now
  pub place : Place start done now

-- a refused commitment: the number is that of the first cause that applies; the windows of a run are fit, so it is never 15
pub record Refused (now : State) (c : Call) (o : Outcome) : Type 0 where
  pub first : FirstCause now (asks c) o.number
  pub never : o.number ≢ 15

-- an accepted one: no cause applies; the windows written are fit, have the committed windows as said and contain the former free ones; every
-- other such set has at most their total, and each equally wide has every open and close at the same tick or later; their total is returned
pub record Accepted (start : State) (done : List Commitment) (now : State) (c : Call) (o : Outcome) (next : State) : Type 0 where
  pub acceptable : Acceptable now (asks c)
  pub chosen : Chosen next.ticket (Allowed next.ticket start done now.windows) next.windows
  pub sum : o.total ≡ total next.ticket next.windows

-- ---- the whole list

-- of this place, and of every place to which the commitments still to come lead: a refused one leaves the current record as it is, after an
-- accepted one it is what was written
abbrev pub Claim : State → List Commitment → List ℕ → State → List Call → Type 0
Claim start done current now [] = Current start done current now
Claim start done current now (c ∷ cs) =
    Current start done current now
    × ((outcome current c).number ≢ 0 → Refused now c (outcome current c) × Claim start done current now cs)
    × ((outcome current c).number ≡ 0
    → (next : State) × Accepted start (asks c ∷ done) now c (outcome current c) next × Claim start (asks c ∷ done) (written (outcome current c)) next cs)

-- ---- the starts

-- an accepted planning: the ticket read is the ticket that the record holds; no flag is set and every count is 0; the windows are fit, every
-- other fit set has at most their total, and each equally wide has every open and close at the same tick or later; their total is returned
pub record Planned (ticket : List ℕ) (o : Outcome) (s : State) : Type 0 where
  pub read : wholly read_ticket ticket ≡ got s.ticket []
  pub free : (p : ℕ) → flagged s.flags p ≡ false
  pub counts : s.counts ≡ replicate 5 0
  pub chosen : Chosen s.ticket (Fit s.ticket) s.windows
  pub sum : o.total ≡ total s.ticket s.windows

-- a refused planning: r is the number of the first cause that applies; "10 is tested first", then the bytes are read, "Then 9 for tickets"
pub data Unplanned (ticket out scratch : List ℕ) (r : ℕ) : Type 0 where
  short : r ≡ 10 → ¬ T (room out scratch) → Unplanned ticket out scratch r
  unread : (c : Cause) → r ≡ number c → T (room out scratch) → wholly read_ticket ticket ≡ refused c → Unplanned ticket out scratch r
  impossible : (k : Ticket) → r ≡ 9 → T (room out scratch) → wholly read_ticket ticket ≡ got k [] → ((ts : List ℕ) → ¬ Schedule k ts)
      → Unplanned ticket out scratch r

-- a planning of any bytes into any output and scratch, or the bytes of a record from anywhere
pub data Start : Type 0 where
  planned : (ticket out scratch : List ℕ) → Start
  given : (current : List ℕ) → Start

-- the claim of a run; the record from anywhere is readable and its windows are fit
abbrev pub Run : Start → List Call → Type 0
Run (planned ticket out scratch) cs =
    Bytes ticket
    → ((planning ticket out scratch).number ≢ 0 → Unplanned ticket out scratch (planning ticket out scratch).number)
    × ((planning ticket out scratch).number ≡ 0
    → (s : State) × Planned ticket (planning ticket out scratch) s × Claim s [] (written (planning ticket out scratch)) s cs)
Run (given current) cs =
    Bytes current
    → (s : State) → Holds current s → Fit s.ticket s.windows → Claim s [] current s cs
