-- `Rules::walks_to` meets its contract, row by row.
use Rattle.std.proofs.Common.{arith}
use Rattle.ring.specs.WalkTable.{table_none, table_more}
use Rattle.ring.proofs.rules.Rules.walks_to.Goals as goal

pub loop-r-init : goal.loop-r-init
loop-r-init c = let b = c.clear.ensures in
    rw c.lower.ensures (table_none c.args.q _ _ c.clear.new.self.costs (omega arith) (omega arith) (omega arith) b.0 b.1)

pub loop-r-preserved : goal.loop-r-preserved
loop-r-preserved c = table_more c.loop-r.invariant c.round.ensures
