-- `stop` meets its contract. The rows below i are done. Assumes nothing.
use native.Mathlib.Omega.{arith}
use Rattle.closure.specs.Matrix.{entry}
use Rattle.closure.specs.ShortestPaths.{stop_carried}
use Rattle.closure.specs.Rows.{rows_all}
use Rattle.closure.proofs.stop.Goals as goal

pub returns-clause-carried : goal.returns-clause-carried
returns-clause-carried c =
    stop_carried c.args.n c.args.k (omega arith) (entry c.args.w.now) (entry c.loop-i.w) (rows_all (omega arith) c.loop-i.invariant.1)
