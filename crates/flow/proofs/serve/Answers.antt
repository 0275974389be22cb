-- `serve` meets its contract. The invariant: the events before i want no more, and what stands past the nodes' times is as it was. Each turn of the inner loop sends some units.
use native.Mathlib.Omega.{arith}
use mathlib.Core.Path.{◌∙◌}
use Rattle.flow.specs.Solve.{sending_ready, sending_more, sending_all}
use Rattle.flow.proofs.serve.Goals as goal

pub augment-f-requires : goal.augment-f-requires
augment-f-requires c = sending_ready c.loop-demand.invariant.sending c.requires.weights c.requires.index c.requires.index_2 (omega arith) (omega (arith, c.loop-demand-test.true))

pub loop-demand-preserved : goal.loop-demand-preserved
loop-demand-preserved c = let h = c.loop-demand.invariant in let a = c.augment-f.ensures in record {
  sending = sending_more h.sending a.augmented c.take.ensures;
  rest = λ k l. a.beyond k l ∙ h.rest k l;
}

pub returns-clause-sent : goal.returns-clause-sent
returns-clause-sent c = sending_all c.loop-i.invariant.sending (omega (arith, c.loop-i-test.false))
