-- `least_key` meets its contract. The invariant is the contract for the keys passed.
use Rattle.search.specs.Nearest.{least_more}
use Rattle.search.proofs.least_key.Goals as goal

pub loop-v-preserved : goal.loop-v-preserved
loop-v-preserved c = least_more c.loop-v.invariant c.min-best.ensures
