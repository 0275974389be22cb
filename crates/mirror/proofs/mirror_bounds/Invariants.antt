-- The invariant: the bounds of the first j rules are mirrored.
use Rattle.mirror.specs.Structs.{Bounds}
use Rattle.mirror.proofs.mirror_bounds.Given as goal

abbrev pub invariant-loop-j : goal.invariant-loop-j
invariant-loop-j l = Bounds l.t l.bounds l.j
