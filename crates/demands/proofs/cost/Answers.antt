-- `cost` meets its contract.
use native.Mathlib.Omega.{arith}
use mir.Syntax.{w32}
use mir.ValLaws.{to_z-of_z}
use Rattle.demands.specs.Cost.{biased_sum, biased_most, biased_read}
use Rattle.demands.proofs.cost.Goals as goal

pub overflow_add-result : goal.overflow_add-result
overflow_add-result c = rw (to_z-of_z w32 c.args.z c.ranges.z, biased_sum c.args.z c.requires.1) record { sfits = omega (arith, biased_most c.args.z c.requires.0) }

pub overflow_cast-result-2 : goal.overflow_cast-result-2
overflow_cast-result-2 c = rw (biased_read c.args.z c.requires.0 c.requires.1) (tt, omega (arith, biased_most c.args.z c.requires.0))

pub returns : goal.returns
returns c = rw (biased_read c.args.z c.requires.0 c.requires.1)
