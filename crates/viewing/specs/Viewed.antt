-- What 02's change 11 says of the call that shows a view, of any bytes, caller and output: it is refused exactly where a cause applies, under the number of the
-- first (`view_refusal`), with length 0 and the output as it was (`view_zeros`); otherwise the view of the record is written (`view_shown`), and what is seen is
-- read back from the output. In a run every current record is shown, and 15 never occurs (`current_shown`). Rests on View and Laws.
use Rattle.std.specs.Prelude.{◌≡◌, List, [], ℕ, ◌+◌, ◌*◌, ◌≤◌, ◌<◌, length}
use Rattle.temporal.specs.Ticket.{Fit}
use Rattle.temporal.specs.Plan.{State}
use Rattle.ticket.specs.Parser.{Cause, number, got, refused, wholly}
use Rattle.ticket.specs.Format.{read_state}
use Rattle.ticket.specs.Writing.{over}
use Rattle.ticket.specs.RoundTrip.{Bytes}
use Rattle.runs.specs.Run.{Holds}
use Rattle.viewing.specs.View.{seen, view, read_view, Outcome, written}

-- ---- what is answered

-- x is the number of the first cause to refuse: 10, then "19, caller above 4, after 10", then 1 to 8 and 14 as the record is read, then 15
pub data ViewRefused (given : List ℕ) (caller : ℕ) (out : List ℕ) (x : ℕ) : Type 0 where
  short : x ≡ 10 → length out < 402 → ViewRefused given caller out x
  unknown_caller : x ≡ 19 → 402 ≤ length out → 4 < caller → ViewRefused given caller out x
  unread : (c : Cause) → x ≡ number c → 402 ≤ length out → caller ≤ 4 → wholly read_state given ≡ refused c → ViewRefused given caller out x
  unfit : (s : State) → x ≡ 15 → 402 ≤ length out → caller ≤ 4 → Holds given s → ¬ Fit s.ticket s.windows → ViewRefused given caller out x

-- the bytes hold the state s, whose windows are fit; its view stands at the start of the output, with nothing else written
pub record Shown (given : List ℕ) (caller : ℕ) (out : List ℕ) (o : Outcome) (s : State) : Type 0 where
  pub room : 402 ≤ length out
  pub known : caller ≤ 4
  pub holds : Holds given s
  pub fit : Fit s.ticket s.windows
  pub number_is : o.number ≡ 0
  -- the bytes written
  pub length_is : o.length ≡ 2 + 10 * length (seen caller s)
  pub length_most : o.length ≤ 402
  pub out_is : o.out ≡ over (view caller s) out
  pub written_is : written o ≡ view caller s
  pub bytes : Bytes (written o)
  -- and read back
  pub reads : wholly read_view (written o) ≡ got (seen caller s) []
