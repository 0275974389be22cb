-- `total` meets its contract, by that of `total_of`.
use native.Mathlib.Omega.{arith}
use Rattle.potentials.specs.Arrays.{valid_given, lie_at}
use Rattle.fitness.proofs.total.Goals as goal

pub total_of-requires : goal.total_of-requires
total_of-requires c = let G = valid_given c.args.t c.requires.valid in (
  G.few,
  λ i l.
      let w = lie_at c.args.t _ _ c.requires.lie i l in
      (w.0, omega (arith, w.1, G.top)),
)
