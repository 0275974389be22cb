-- `start` meets its contract. The invariant: the flow so far carries what is no longer wanted.
use Rattle.flow.specs.Solve.{first_none, first_fits, first_wanted, first_more}
use Rattle.flow.proofs.start.Goals as goal

pub loop-e-init : goal.loop-e-init
loop-e-init c = first_none c.requires.flowless c.requires.weights.0 c.requires.weights.1

pub carry-requires : goal.carry-requires
carry-requires c = let a = c.loop-e in
    let more = c.loop-e-test.true in record {
      edge_fits = first_fits a.invariant a.e more;
      wanted = first_wanted a.invariant a.e more c.requires.weights.0;
    }

pub loop-e-preserved : goal.loop-e-preserved
loop-e-preserved c = let a = c.loop-e in
    first_more a.invariant a.e c.loop-e-test.true c.carry.ensures
