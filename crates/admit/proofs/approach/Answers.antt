-- `approach` meets its contract, by those of `lift` and `seek`.
use native.Mathlib.Omega.{arith}
use Rattle.network.specs.Stored.{pot_bound}
use Rattle.admit.proofs.approach.Goals as goal

pub overflow_add-pot : goal.overflow_add-pot
overflow_add-pot c = let F = c.requires.growing.flowless in
    omega (arith, pot_bound _ _ _ _ F.network F.potential c.args.b c.requires.a_lt_nodes.1)

pub overflow_add-pot-2 : goal.overflow_add-pot-2
overflow_add-pot-2 c = let F = c.requires.growing.flowless in
    omega (arith, pot_bound _ _ _ _ F.network F.potential c.args.a c.requires.a_lt_nodes.0, c.requires.a_lt_nodes.2)

pub returns-in-Err-GivenUp : goal.returns-in-Err-GivenUp
returns-in-Err-GivenUp c = c.seek.ensures c.args.c
