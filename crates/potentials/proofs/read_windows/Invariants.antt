-- `read_windows` meets its contract. The invariant: the first i windows are read.
use Rattle.potentials.specs.Pairs.{Read}
use Rattle.potentials.proofs.read_windows.Given as goal

abbrev pub invariant-loop-i : goal.invariant-loop-i
invariant-loop-i l = Read l.n l.pot l.initial.opens l.initial.closes l.opens l.closes l.i
