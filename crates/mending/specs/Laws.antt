-- What is claimed of the mended ticket (02, change 6). Rests on Steps and Split, on temporal's `consistent_has` (a ticket is consistent exactly where it has a
-- schedule), and on `paths` for the rules by their numbers.
use Prim.Native.Nat.{ℕ}
use Rattle.std.specs.Prelude.{not, ◌||◌, eqb}
use mathlib.Core.List.{List}
use Rattle.temporal.specs.Ticket.{Rule, Ticket, Schedule}
use Rattle.mending.specs.Selection.{dropped}
use Rattle.mending.specs.Split.{has, passing}

abbrev pub HasSchedule : Ticket → Type 0
HasSchedule k = (ts : List ℕ) × Schedule k ts

-- at its own place: the rules whose numbers are not in the list, and rule i
abbrev pub restored : Ticket → ℕ → List Rule
restored k i = passing (λ j. not (has (dropped k) j) || eqb j i) 1 k.rules
