-- `admit_rule` meets its contract, by that of `admit`.
use native.Mathlib.Omega.{arith}
use mir.Syntax.{w32}
use mir.ValLaws.{to_z-of_z}
use Rattle.demands.specs.Cost.{biased_most, bound_fits}
use Rattle.schedule.proofs.admit_rule.Goals as goal

pub admit-requires : goal.admit-requires
admit-requires c = let small = c.requires.small_rule in record {
  growing = c.requires.growing;
  admissible = record {
    size = c.requires.n_bound.2;
    room = omega arith;
    by_tail = omega arith;
    by_head = omega arith;
    tail = omega (arith, small.from_point);
    head = omega (arith, small.to_point);
    cost = rw (c.cost.ensures, to_z-of_z w32 _ (bound_fits _ small.high small.deep)) (biased_most _ small.high);
  };
}
