-- The laws of what specs/Examples defines.
use Rattle.std.specs.Prelude.{◌≡◌, refl, List, [], ◌∷◌, ℕ, ◌≤◌, T, ℤ, length}
use Rattle.std.proofs.Common.{ap, ◌∙◌}
use Rattle.temporal.specs.Lists.{All, tab}
use Rattle.temporal.proofs.Lists.{T-true}
use Rattle.temporal.specs.Bound.{at_most, above, below}
use Rattle.temporal.specs.Ticket.{Ticket, is_schedule}
use Rattle.temporal.specs.Distance.{consistent}
use Rattle.temporal.proofs.Distance.{consistent_has}
use Rattle.temporal.proofs.Ends.{test_schedule}
use Rattle.temporal.specs.Examples.{ticket1}
use Rattle.temporal.proofs.Examples.{consistent1}
use Rattle.ticket.specs.Parser.{little, many, got, wholly}
use Rattle.ticket.specs.Format.{read_ticket, read_owner, read_rule}
use Rattle.ticket.specs.Writer.{write_ticket, write_rule, bytes, each}
use Rattle.closure.specs.Matrix.{join, shown}
use Rattle.closure.specs.Start.{plain, weight, ruled}
use Rattle.closure.specs.Stops.{after}
use Rattle.stops.specs.After.{working_at, working, after_reading, table_after}
use Rattle.stops.proofs.After.{after_read, worked_some}
use Rattle.stops.specs.Examples.{Holds, examples, late}

-- ---- every row of the table is what the definitions answer

possible_late : T (consistent late)
unfolding is_schedule at_most above below
possible_late = (consistent_has late).1 (0 ∷ 0 ∷ [], test_schedule late (0 ∷ 0 ∷ []) tt)

row : (k : Ticket) (s : ℕ) → wholly read_ticket (write_ticket k) ≡ got k [] → T (consistent k) → (out : List ℤ) → 1681 ≤ length out
    → table_after (write_ticket k) s out ≡ (0, working k s out)
row k s read has out room = after_read (write_ticket k) s out room ∙ ap (after_reading s out) read ∙ worked_some k s out (T-true (consistent k) has)

pub examples_hold : All Holds examples
unfolding read_ticket read_owner read_rule little many write_ticket write_rule bytes each working_at shown after ruled plain weight join tab
examples_hold = (
  row ticket1 0 refl consistent1,
  (
    row ticket1 1 refl consistent1,
    (
      row ticket1 2 refl consistent1,
      (
        row ticket1 3 refl consistent1,
        (row late 0 refl possible_late, (row late 1 refl possible_late, (row late 2 refl possible_late, (row late 3 refl possible_late, tt)))),
      ),
    ),
  ),
)
