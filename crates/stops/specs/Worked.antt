-- What 02's change 3 says of the call, of any bytes: it is refused exactly where a cause applies, under the number of the first (`after_refusal`), with the
-- output as it was (`after_leaves`); otherwise the output holds the working entries of the ticket (`after_worked`), which are the shortest paths by the stops
-- taken, and after all stops what the table of distances writes. Rests on After and Meant.
use Rattle.std.specs.Prelude.{◌≡◌, List, ℕ, ◌+◌, ◌*◌, ◌≤◌, ◌<◌, ℤ, pos, length, get_or}
use Rattle.temporal.specs.Ticket.{Ticket, events, Schedule}
use Rattle.temporal.specs.Table.{filled}
use Rattle.ticket.specs.Parser.{Cause, number, refused, wholly}
use Rattle.ticket.specs.Format.{read_ticket}
use Rattle.ticket.specs.Content.{HoldsTicket}
use Rattle.closure.specs.Matrix.{Everywhere}
use Rattle.closure.specs.Steps.{cell}
use Rattle.stops.specs.After.{taken}
use Rattle.stops.specs.Meant.{Entry}

-- x is the number of the first cause to refuse: 10, then 1 to 8 as the ticket is read, then 9
pub data Unworked (ticket : List ℕ) (out : List ℤ) (x : ℕ) : Type 0 where
  short : x ≡ 10 → length out < 1681 → Unworked ticket out x
  unread : (c : Cause) → x ≡ number c → 1681 ≤ length out → wholly read_ticket ticket ≡ refused c → Unworked ticket out x
  impossible : (k : Ticket) → x ≡ 9 → 1681 ≤ length out → HoldsTicket ticket k → ((ts : List ℕ) → ¬ Schedule k ts) → Unworked ticket out x

-- the ticket k has a schedule; the output holds the working entries after the first s stops, row by row, and beyond them what it held before
pub record Worked (ticket : List ℕ) (s : ℕ) (out out' : List ℤ) (k : Ticket) : Type 0 where
  pub room : 1681 ≤ length out
  pub holds : HoldsTicket ticket k
  pub times : List ℕ
  pub schedule : Schedule k times
  pub entries : Everywhere (events k) (λ i j. Entry k (taken k s) i j (cell (events k) out' i j))
  pub beyond : (p : ℕ) → (events k + 1) * (events k + 1) ≤ p → get_or out' p (pos 0) ≡ get_or out p (pos 0)
  pub finished : events k < s → out' ≡ filled (events k) k out
