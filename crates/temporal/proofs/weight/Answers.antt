-- `temporal::weight` is the definition's table, entry by entry, and 0 past it.
use mathlib.Core.Path.{refl, sym}
use native.Mathlib.Omega.{arith}
use Rattle.temporal.proofs.Lists.{get_d_past}
use Rattle.temporal.specs.Ticket.{weights, weight}
use Rattle.temporal.proofs.weight.Goals as goal

pub returns-then-owner-gt4 : goal.returns-then-owner-gt4
unfolding weight weights
returns-then-owner-gt4 c = sym (get_d_past weights 0 c.args.owner (omega arith))

pub returns : goal.returns
unfolding weight weights
returns c = refl
