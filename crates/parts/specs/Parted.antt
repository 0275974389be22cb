-- What 02's change 8 says of the call, of any bytes: it is refused exactly where a cause applies, under the number of the first (`part_refusal`), which is
-- 1 to 10 (`part_number`), and 9 exactly where a ticket was read that has no schedule (`part_nine`), with zeros and the output as it was (`part_zeros`);
-- otherwise the device's part and its total are written (`part_written`), and the part is read back from the output. The five totals against the plan's are
-- `five_at_least` and `five_equal`. Rests on Parting and Parts.
use Rattle.std.specs.Prelude.{ℕ, ◌+◌, ◌*◌, ◌≤◌, ◌<◌, ◌≡◌, length, get_or}
use mathlib.Core.List.{List, [], ◌∷◌, map}
use Rattle.std.proofs.Math.ListN.{take}
use Rattle.temporal.specs.Ticket.{Ticket, Schedule, Window, window_of, Fit, total}
use Rattle.temporal.specs.Best.{Chosen}
use Rattle.ticket.specs.Parser.{Cause, number, got, refused, Parser, ◌>>=◌, give, byte, little, many, wholly}
use Rattle.ticket.specs.Format.{read_ticket}
use Rattle.ticket.specs.Writing.{over}
use Rattle.ticket.specs.Content.{HoldsTicket}
use Rattle.parts.specs.Part.{members, part_ticket, part_plan}
use Rattle.parts.specs.Parting.{Numbered, numbered, write_part, Outcome}

-- an event, its open and its close, as they are read
unfoldable pub read_numbered : Parser Numbered
read_numbered = do
  p ← byte
  a ← little 4
  b ← little 4
  give (record { event = p; window = record { opens = a; closes = b } })

-- and a part: its count and its events
unfoldable pub read_part : Parser (List Numbered)
read_part = little 2 >>= (λ n. many read_numbered n)

-- ---- the part in the plan

-- these events with their windows in a set of windows for all events
abbrev pub shown : List Window → List ℕ → List Numbered
shown ws ps = map (λ p. record { event = p; window = window_of ws p }) ps

-- ---- what is answered

-- x is the number of the first cause to refuse: 10, then 4 for the device, then 1 to 8 as the ticket is read, then 9
pub data Unparted (ticket : List ℕ) (device : ℕ) (out : List ℕ) (x : ℕ) : Type 0 where
  short : x ≡ 10 → length out < 362 → Unparted ticket device out x
  unknown : x ≡ 4 → 362 ≤ length out → 4 < device → Unparted ticket device out x
  unread : (c : Cause) → x ≡ number c → 362 ≤ length out → device ≤ 4 → wholly read_ticket ticket ≡ refused c → Unparted ticket device out x
  impossible : (k : Ticket) → x ≡ 9 → 362 ≤ length out → device ≤ 4 → HoldsTicket ticket k → ((ts : List ℕ) → ¬ Schedule k ts) → Unparted ticket device out x

-- the bytes hold the ticket k, which has a schedule; the device's part stands at the start of the output, with nothing else written
pub record Parted (ticket : List ℕ) (device : ℕ) (out : List ℕ) (o : Outcome) (k : Ticket) : Type 0 where
  pub room : 362 ≤ length out
  pub known : device ≤ 4
  pub holds : HoldsTicket ticket k
  pub times : List ℕ
  pub schedule : Schedule k times
  pub number_is : o.number ≡ 0
  -- the bytes written
  pub length_is : o.length ≡ 2 + 9 * length (members device k)
  pub fits : o.length ≤ 362
  pub out_is : o.out ≡ over (write_part device k) out
  -- and read back: the device's events, rising, with the windows of the part's plan
  pub reads : wholly read_part (take o.length o.out) ≡ got (numbered device k) []
  pub events_are : map (λ (p : Numbered). p.event) (numbered device k) ≡ members device k
  pub rising : (i j : ℕ) → i < j → j < length (members device k) → get_or (members device k) i 0 < get_or (members device k) j 0
  pub in_a_byte : (i : ℕ) → i < length (members device k) → (1 ≤ get_or (members device k) i 0) × (get_or (members device k) i 0 < 256)
  -- "plan that part with the same weights": the widest of its fit sets, and of these the earliest
  pub chosen : Chosen (part_ticket device k) (Fit (part_ticket device k)) (part_plan device k)
  pub total_is : o.total ≡ total (part_ticket device k) (part_plan device k)
  -- a device without an event
  pub empty : length (members device k) ≡ 0 → (write_part device k ≡ 0 ∷ 0 ∷ []) × (o.total ≡ 0)
