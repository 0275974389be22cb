-- `network_main::bounds` meets its contract. The invariant: the nodes below v have their bounds. Assumes nothing.
use Rattle.network_main.specs.Built.{Bounded}
use Rattle.network_main.proofs.bounds.Given as goal

abbrev pub invariant-loop-v : goal.invariant-loop-v
invariant-loop-v l = Bounded l.low l.high l.v
