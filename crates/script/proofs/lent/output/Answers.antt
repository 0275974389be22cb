-- `script::lent::output` meets its contract: the array of 2,048 numbers 7 is `untouched`. Assumes nothing.
use Rattle.std.proofs.Common.{rules}
use Rattle.script.specs.Lent.{untouched}
use Rattle.script.proofs.lent.output.Goals as goal

pub returns-clause-value_2 : goal.returns-clause-value_2
unfolding untouched
returns-clause-value_2 c = search rules
