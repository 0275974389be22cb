-- `script::copy` meets its contract: the front of the output is what was copied. Assumes nothing.
use Rattle.script.specs.Lent.{holding}
use Rattle.script.proofs.copy.Goals as goal

pub returns-clause-out_after : goal.returns-clause-out_after
unfolding holding
returns-clause-out_after c = cc
