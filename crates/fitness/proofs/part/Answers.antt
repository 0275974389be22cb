-- `part` meets its contract.
use native.Mathlib.Omega.{arith}
use Prim.Native.Nat.{◌*◌, ◌-◌, ◌≤◌}
use mathlib.Core.Path.{ap}
use Rattle.temporal.proofs.Ticket.{weight_small}
use Rattle.fitness.specs.Total.{part_most}
use Rattle.fitness.proofs.part.Goals as goal
use Rattle.fitness.proofs.part.Goals.{After-weight}

most : (c : After-weight) → c.weight.result * (c.args.closes - c.args.opens) ≤ 3000000
most c = part_most c.weight.result (c.args.closes - c.args.opens) (rw c.weight.ensures (weight_small _)) (omega arith)

pub overflow_mul-result : goal.overflow_mul-result
overflow_mul-result c = omega (arith, most (goal.at.overflow_mul-result c).After-weight)

pub returns : goal.returns
returns c = (ap (λ w. w * (c.args.closes - c.args.opens)) c.weight.ensures, most (goal.at.returns c).After-weight)
