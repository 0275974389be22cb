-- The invariant: the first i windows may grow, unless they are committed.
use mathlib.Core.Path.{◌≡◌}
use Rattle.potentials.specs.Pairs.{loosened}
use Rattle.potentials.proofs.limits.Given as goal

abbrev pub invariant-loop-i : goal.invariant-loop-i
invariant-loop-i l = (l.low ≡ loosened 0 0 l.flags l.i l.initial.low) × (l.high ≡ loosened l.n l.horizon l.flags l.i l.initial.high)
