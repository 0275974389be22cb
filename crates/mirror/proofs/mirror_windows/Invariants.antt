-- The invariant: the windows of the first i events are turned round.
use Rattle.mirror.specs.Structs.{Exchanged}
use Rattle.mirror.proofs.mirror_windows.Given as goal

abbrev pub invariant-loop-i : goal.invariant-loop-i
invariant-loop-i l = Exchanged l.horizon l.i l.initial.opens l.initial.closes l.opens l.closes
