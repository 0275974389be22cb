-- `scan_tails` meets its contract. The invariant: the edges of the list from x on are visited, and x - 1 is the next.
use Rattle.scan.specs.Sweep.{Sweep}
use Rattle.scan.proofs.scan_tails.Given as goal

abbrev pub invariant-loop-x : goal.invariant-loop-x
invariant-loop-x l = Sweep l.net l.m l.nodes l.pot l.initial.trail l.trail l.w 0 l.x

abbrev pub decreases-loop-x : goal.decreases-loop-x
decreases-loop-x l = l.x
