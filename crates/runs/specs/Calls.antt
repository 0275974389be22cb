-- Planning and commitment on bytes, as functions of all that a call is lent: what is returned, and what output and scratch hold afterwards.
-- The bytes are `ticket`'s, the decisions `temporal`'s. This is 01's "Network, table, plan" and "Where a paper is sent back", and 02's changes 1 and 11.
use Rattle.std.specs.Prelude.{Bool, cond, ◌&&◌, List, ◌++◌, ℕ, leb, ltb, length, drop, replicate}
use Rattle.temporal.specs.Ticket.{total}
use Rattle.temporal.specs.Plan.{State, Answer, asking, plan, plan_latest, commit}
use Rattle.ticket.specs.Parser.{Out, number, wholly}
use Rattle.ticket.specs.Format.{read_ticket, read_state}
use Rattle.ticket.specs.Writer.{write_state}
use Rattle.ticket.specs.Writing.{over}

-- what a call returns, and what the lent output and scratch hold afterwards
pub record Outcome : Type 0 where
  pub number : ℕ
  pub length : ℕ
  pub total : ℕ
  pub out : List ℕ
  pub scratch : List ℕ

-- the lent output and scratch are long enough
unfoldable pub room : List ℕ → List ℕ → Bool
room out scratch = leb 1958 (length out) && leb 2400 (length scratch)

-- the list with 0 for its first n numbers, and the rest as it was
unfoldable pub zeroed : ℕ → List ℕ → List ℕ
zeroed n xs = replicate n 0 ++ drop n xs

-- the scratch after every answer but 10
abbrev pub cleared : List ℕ → List ℕ
cleared scratch = zeroed 2400 scratch

-- 10 leaves output and scratch as they were
abbrev pub without_room : List ℕ → List ℕ → Outcome
without_room out scratch = record { number = 10; length = 0; total = 0; out = out; scratch = scratch }

-- every other refusal leaves the output as it was
abbrev pub refusing : ℕ → List ℕ → List ℕ → Outcome
refusing r out scratch = record { number = r; length = 0; total = 0; out = out; scratch = cleared scratch }

-- the record's bytes stand at the start of the output, and what lies after them is as it was
abbrev pub accepting : State → List ℕ → List ℕ → Outcome
accepting s out scratch =
    record {
      number = 0;
      length = length (write_state s);
      total = total s.ticket s.windows;
      out = over (write_state s) out;
      scratch = cleared scratch;
    }

abbrev pub answered : List ℕ → List ℕ → Answer → Outcome
answered out scratch (Answer.refused r) = refusing r out scratch
answered out scratch (Answer.accepted s) = accepting s out scratch

-- a reading that is refused answers the number of its cause; what was read goes on to `decide`
abbrev pub after_reading : {A : Type 0} → List ℕ → List ℕ → (A → Answer) → Out A → Outcome
after_reading out scratch decide (Out.got x rest) = answered out scratch (decide x)
after_reading out scratch decide (Out.refused cause) = refusing (number cause) out scratch

-- ---- the calls: 10 is tested first, then the caller of a commitment, then the bytes are read, to their end, then it is decided

-- where there is room
abbrev pub plan_read : (ticket out scratch : List ℕ) → Outcome
plan_read ticket out scratch =
    after_reading out scratch plan (wholly read_ticket ticket)

-- what is decided of the record that a commitment is handed
abbrev pub commit_for : (caller event opens closes : ℕ) → State → Answer
commit_for caller event opens closes s = commit s (asking caller event opens closes)

-- "19, caller above 4, after 10" (02, change 11)
unfoldable pub commit_read : (bytes : List ℕ) (caller event opens closes : ℕ) (out scratch : List ℕ) → Outcome
commit_read bytes caller event opens closes out scratch =
    cond (ltb 4 caller)
    (refusing 19 out scratch)
    (after_reading out scratch (commit_for caller event opens closes) (wholly read_state bytes))

unfoldable pub planning : (ticket out scratch : List ℕ) → Outcome
planning ticket out scratch = cond (room out scratch) (plan_read ticket out scratch) (without_room out scratch)

-- the latest plan (02, change 1): it "borrows, returns and refuses as planning does"
abbrev pub plan_read_latest : (ticket out scratch : List ℕ) → Outcome
plan_read_latest ticket out scratch =
    after_reading out scratch plan_latest (wholly read_ticket ticket)

unfoldable pub planning_latest : (ticket out scratch : List ℕ) → Outcome
planning_latest ticket out scratch = cond (room out scratch) (plan_read_latest ticket out scratch) (without_room out scratch)

unfoldable pub committing : (bytes : List ℕ) (caller event opens closes : ℕ) (out scratch : List ℕ) → Outcome
committing bytes caller event opens closes out scratch =
    cond (room out scratch) (commit_read bytes caller event opens closes out scratch) (without_room out scratch)
