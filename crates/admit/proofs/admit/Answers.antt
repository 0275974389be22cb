-- `admit` meets its contract: the edge is stored, the potential moves towards its demand, and the edge is put into the lists where the demand is met.
use native.Mathlib.Omega.{arith}
use mathlib.Core.Path.{refl}
use Rattle.network.specs.Stored.{pot_bound}
use Rattle.admit.specs.Admit.{admits_yes, admits_no}
use Rattle.admit.proofs.admit.Goals as goal

pub overflow_add-pot : goal.overflow_add-pot
overflow_add-pot c = let F = c.approach.ensures.growing.flowless in
    omega (arith, pot_bound _ _ _ _ F.network F.potential c.args.a c.requires.admissible.tail, c.requires.admissible.cost)

pub overflow_add-pot-2 : goal.overflow_add-pot-2
overflow_add-pot-2 c = let F = c.approach.ensures.growing.flowless in
    omega (arith, pot_bound _ _ _ _ F.network F.potential c.args.b c.requires.admissible.head)

pub returns-then-pot-a : goal.returns-then-pot-a
returns-then-pot-a c = admits_no c.put.ensures c.approach.ensures c.if-pot-a.true

pub returns : goal.returns
returns c = let a = c.approach.ensures in
    admits_yes c.put.ensures a _ c.requires.admissible c.if-pot-a.false refl c.link.ensures c.link-2.ensures
