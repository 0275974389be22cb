-- An accepted call: "length and total follow from the record" (01, "The job"), which is read from the start of the output that the call leaves
-- (`plan_tells`, `commit_tells`); and the plan of a ticket with no events (`plan_nothing`). Rests on the round trips of `ticket` and on Refusals.
use Rattle.std.specs.Prelude.{◌≡◌, drop}
use Rattle.temporal.specs.Ticket.{total}
use Rattle.temporal.specs.Plan.{State}
use Rattle.ticket.specs.Parser.{got}
use Rattle.ticket.specs.Format.{state_size, read_state}
use Rattle.runs.specs.Calls.{Outcome}

-- reading the output from its start gives the state s, and leaves what lies past the length returned; the length is the size of s's record, and the
-- total that of its windows. So both are functions of the output's bytes.
pub record Tells (o : Outcome) (s : State) : Type 0 where
  pub read : read_state o.out ≡ got s (drop o.length o.out)
  pub length_is : o.length ≡ state_size s
  pub total_is : o.total ≡ total s.ticket s.windows
