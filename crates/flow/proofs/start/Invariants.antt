-- `start` meets its contract. The invariant: the flow so far carries what is no longer wanted.
use Rattle.flow.specs.Solve.{FirstFlow}
use Rattle.flow.proofs.start.Given as goal

abbrev pub invariant-loop-e : goal.invariant-loop-e
invariant-loop-e l = FirstFlow l.initial.net l.net l.m l.n l.pot l.initial.supply l.supply l.demand
