-- The invariant: the selection among the rules below j stands in the arrays, and the network has the kept ones.
use mathlib.Core.Path.{◌≡◌}
use lib.ListN.{length}
use Rattle.select.specs.Selecting.{Selecting}
use Rattle.select.proofs.select.Given as goal

abbrev pub invariant-loop-j : goal.invariant-loop-j
invariant-loop-j l = (length l.tails ≡ length l.initial.tails) × (length l.heads ≡ length l.initial.heads) × Selecting l.t (length l.initial.net) l.net l.times l.tails l.heads l.j l.mended
