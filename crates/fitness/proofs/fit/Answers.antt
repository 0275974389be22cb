-- `fit` meets its contract, by those of its parts.
use native.Mathlib.Omega.{arith}
use mathlib.Core.Path.{refl}
use Rattle.potentials.specs.Arrays.{valid_given}
use Rattle.fitness.specs.Fit.{laid_most, fit_answer}
use Rattle.fitness.proofs.fit.Goals as goal

pub lay-requires : goal.lay-requires
lay-requires c = record {
  n_bound = (valid_given c.args.t c.requires.valid).few;
  nodes = record { long = refl; origin = refl };
}

pub obeyed-requires : goal.obeyed-requires
obeyed-requires c = let G = valid_given c.args.t c.requires.valid in record {
  given = G;
  n_le_events = (omega arith, λ v l. laid_most G c.args.opens.now c.args.closes.now c.requires.lie c.lay.ensures v (omega arith));
}

pub returns : goal.returns
returns c = fit_answer (valid_given c.args.t c.requires.valid) _ _ c.requires.lie c.lay.ensures _ c.obeyed.ensures
