-- What 02's change 6 says of the call, of any bytes: it is refused exactly where a cause applies, under the number of the first (`mend_refusal`), which is
-- 1 to 8 or 10 (`mend_number`) and never 9 (`mend_not_nine`), with zeros and both outputs as they were (`mend_zeros`); otherwise the mended ticket and the list
-- are written (`mend_written`), and both are read back from the outputs. Rests on Mending and Laws.
use Rattle.std.specs.Prelude.{ℕ, ◌≤◌, ◌<◌, ◌≡◌, ◌⊎◌, length}
use mathlib.Core.List.{List, [], ◌∷◌}
use Rattle.std.proofs.Math.ListN.{take}
use Rattle.temporal.specs.Lists.{◌∈◌}
use Rattle.temporal.specs.Ticket.{Ticket}
use Rattle.ticket.specs.Parser.{Cause, number, got, refused, Parser, ◌>>=◌, little, many, wholly}
use Rattle.ticket.specs.Format.{read_ticket}
use Rattle.ticket.specs.Writer.{write_ticket}
use Rattle.ticket.specs.Writing.{over}
use Rattle.ticket.specs.Content.{HoldsTicket}
use Rattle.mending.specs.Selection.{with_rules, kept_rules, mended, dropped}
use Rattle.mending.specs.Split.{Split, Rising}
use Rattle.mending.specs.Laws.{HasSchedule, restored}
use Rattle.mending.specs.Mending.{write_numbers, Outcome, writing, mending}

-- numbers after their count, as they are read
unfoldable pub read_numbers : Parser (List ℕ)
read_numbers = little 2 >>= (λ n. many (little 2) n)

-- a list of no numbers
abbrev pub no_numbers : List ℕ
no_numbers = 0 ∷ 0 ∷ []

-- ---- what is answered

-- x is the number of the first cause to refuse: 10, then 1 to 8 as the ticket is read
pub data Unmended (ticket out list : List ℕ) (x : ℕ) : Type 0 where
  short : x ≡ 10 → (length out < 1584) ⊎ (length list < 514) → Unmended ticket out list x
  unread : (c : Cause) → x ≡ number c → 1584 ≤ length out → 514 ≤ length list → wholly read_ticket ticket ≡ refused c → Unmended ticket out list x

-- the bytes hold the ticket k; the mended one and the list stand at the start of the outputs, with nothing else written
pub record Mended (ticket out list : List ℕ) (o : Outcome) (k : Ticket) : Type 0 where
  pub room : (1584 ≤ length out) × (514 ≤ length list)
  pub holds : HoldsTicket ticket k
  pub number_is : o.number ≡ 0
  -- the bytes written
  pub length_is : o.length ≡ length (write_ticket (mended k))
  pub listed_is : o.listed ≡ length (write_numbers (dropped k))
  pub out_is : o.out ≡ over (write_ticket (mended k)) out
  pub list_is : o.list ≡ over (write_numbers (dropped k)) list
  pub fits : (o.length ≤ 1584) × (o.listed ≤ 514)
  -- and read back
  pub reads : HoldsTicket (take o.length o.out) (mended k)
  pub lists : wholly read_numbers (take o.listed o.list) ≡ got (dropped k) []
  -- kept and dropped together are the rules, in order; the numbers rise
  pub split : Split 1 k.rules (kept_rules k) (dropped k)
  pub rising : Rising 1 (length k.rules) (dropped k)
  pub scheduled : HasSchedule (mended k)
  -- "putting any one dropped rule back makes the mended ticket impossible"
  pub puts_back : (i : ℕ) → i ∈ dropped k → ¬ HasSchedule (with_rules k (restored k i))
  -- "a ticket with a schedule comes out byte for byte, with an empty list"
  pub same : HasSchedule k → (take o.length o.out ≡ ticket) × (dropped k ≡ [])
  -- mending the mended ticket changes nothing
  pub again : (out' list' : List ℕ) → 1584 ≤ length out' → 514 ≤ length list'
      → mending (take o.length o.out) out' list' ≡ writing (take o.length o.out) no_numbers out' list'
