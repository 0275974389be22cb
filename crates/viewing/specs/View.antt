-- What a device sees of a record (02, change 11), its bytes, and the call that shows it, as a function of all that it is lent: what is returned, and what the
-- output holds afterwards. What is seen is `temporal`'s, the bytes are `ticket`'s.
use Rattle.std.specs.Prelude.{Bool, cond, ◌||◌, List, [], ◌∷◌, ◌++◌, ℕ, zero, suc, leb, ltb, eqb, length, take}
use Rattle.temporal.specs.Ticket.{events, window_of, fits}
use Rattle.temporal.specs.Plan.{State, owner_of, flagged}
use Rattle.ticket.specs.Parser.{Parser, Out, ◌>>=◌, give, byte, little, many, number, wholly}
use Rattle.ticket.specs.Format.{Entry, read_window, read_state}
use Rattle.ticket.specs.Writer.{bytes, each, write_window}
use Rattle.ticket.specs.Writing.{over}

-- ---- what is seen

-- "A device sees the windows and flags of its own events; the database sees all": 4 is the database
unfoldable pub may_see : (caller owner : ℕ) → Bool
may_see caller owner = eqb caller 4 || eqb owner caller

-- an event's number, and its window with its flag
pub record Seen : Type 0 where
  pub event : ℕ
  pub entry : Entry

abbrev pub seen_at : State → ℕ → Seen
seen_at s p = record { event = p; entry = record { committed = flagged s.flags p; window = window_of s.windows p } }

-- the event, if the caller may see it
abbrev pub seen_if : (caller : ℕ) → State → ℕ → List Seen
seen_if caller s p = cond (may_see caller (owner_of s.ticket p)) (seen_at s p ∷ []) []

-- of the events 1 to n those that the caller may see, "rising"
unfoldable pub seen_to : ℕ → (caller : ℕ) → State → List Seen
seen_to zero caller s = []
seen_to (suc n) caller s = seen_to n caller s ++ seen_if caller s (suc n)

abbrev pub seen : (caller : ℕ) → State → List Seen
seen caller s = seen_to (events s.ticket) caller s

-- ---- its bytes

-- "each event's number in a byte and its window as in the record": ten bytes
unfoldable pub write_seen : Seen → List ℕ
write_seen x = x.event ∷ write_window x.entry

-- "A view is a 2-byte count, then each event's"
unfoldable pub write_view : List Seen → List ℕ
write_view xs = bytes 2 (length xs) ++ each write_seen xs

abbrev pub view : (caller : ℕ) → State → List ℕ
view caller s = write_view (seen caller s)

-- read by one who has the view alone: of the horizon he knows its limit
unfoldable pub read_seen : Parser Seen
read_seen = do
  p ← byte
  e ← read_window 1000000
  give (record { event = p; entry = e })

unfoldable pub read_view : Parser (List Seen)
read_view = do
  n ← little 2
  many read_seen n

-- ---- the call

-- what the call returns, and what the lent output holds afterwards; it borrows no scratch
pub record Outcome : Type 0 where
  pub number : ℕ
  pub length : ℕ
  pub out : List ℕ

-- what a call wrote: as many bytes of its output as the length returned
abbrev pub written : Outcome → List ℕ
written o = take o.length o.out

-- a refusal returns its number and zero, and leaves the output as it was
abbrev pub refusing : ℕ → List ℕ → Outcome
refusing r out = record { number = r; length = 0; out = out }

-- the view stands at the start of the output, and what lies after it is as it was
abbrev pub showing : List ℕ → List ℕ → Outcome
showing bytes out = record { number = 0; length = length bytes; out = over bytes out }

-- of a record that was read: one whose windows are not fit is refused under 15
unfoldable pub viewed : (caller : ℕ) → State → List ℕ → Outcome
viewed caller s out = cond (fits s.ticket s.windows) (showing (view caller s) out) (refusing 15 out)

-- "a record's refusals, 15 included, come before it"
abbrev pub after_reading : (caller : ℕ) → List ℕ → Out State → Outcome
after_reading caller out (Out.got s rest) = viewed caller s out
after_reading caller out (Out.refused cause) = refusing (number cause) out

-- the call: 10 is tested first, then the caller ("19, caller above 4, after 10"), then the record is read, to its end. 402 bytes hold the longest view.
unfoldable pub viewing : (bytes : List ℕ) (caller : ℕ) (out : List ℕ) → Outcome
viewing bytes caller out =
    cond (leb 402 (length out)) (cond (ltb 4 caller) (refusing 19 out) (after_reading caller out (wholly read_state bytes))) (refusing 10 out)
