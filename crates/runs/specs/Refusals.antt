-- Refusals of the calls (01, "Where a paper is sent back"): a call answers a number other than 0 exactly where it is that of the first cause that
-- applies (`plan_refusal`, `commit_refusal`; of 9 alone `plan_nine`, of 11 and 12 `commit_neither`), so one to which none applies is accepted (`commit_accepted`);
-- and a refusal returns "number, zeros elsewhere" and leaves the output as it was (`plan_zeros`, `latest_zeros`, `commit_zeros`). The causes of a planning are Run's `Unplanned`.
-- Rests on Calls and on `temporal`'s causes.
use Rattle.std.specs.Prelude.{◌≡◌, List, ◌≢◌, ℕ, ◌≤◌, ◌<◌, T}
use Rattle.temporal.specs.Plan.{State}
use Rattle.temporal.specs.Run.{FirstCause}
use Rattle.ticket.specs.Parser.{Cause, number, refused, wholly}
use Rattle.ticket.specs.Format.{read_state}
use Rattle.runs.specs.Calls.{Outcome, room}
use Rattle.runs.specs.Run.{Call, asks, Holds}

-- x is the number of the first cause to refuse a commitment of any bytes (01, "Where a paper is sent back"; 02, changes 4 and 11): 10, 19, then the bytes are
-- read, then 15, 20, 13, 18
pub data CommitRefused (current : List ℕ) (c : Call) (x : ℕ) : Type 0 where
  lent_short : x ≡ 10 → ¬ T (room c.out c.scratch) → CommitRefused current c x
  unknown_caller : x ≡ 19 → T (room c.out c.scratch) → 4 < c.caller → CommitRefused current c x
  unreadable : (k : Cause) → x ≡ number k → T (room c.out c.scratch) → c.caller ≤ 4 → wholly read_state current ≡ refused k
      → CommitRefused current c x
  decided : (s : State) → T (room c.out c.scratch) → c.caller ≤ 4 → Holds current s → FirstCause s (asks c) x → CommitRefused current c x

-- ---- "number, zeros elsewhere"

-- a refusal has length 0 and total 0, and the output is as it was
abbrev pub Zeros : List ℕ → Outcome → Type 0
Zeros out o = o.number ≢ 0 → (o.length ≡ 0) × (o.total ≡ 0) × (o.out ≡ out)
