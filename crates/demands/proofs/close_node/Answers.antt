-- `close_node` meets its contract.
use native.Mathlib.Omega.{arith}
use Rattle.potentials.specs.Nodes.{close_start, close_event}
use Rattle.demands.proofs.close_node.Goals as goal

pub returns-then-point-eq0 : goal.returns-then-point-eq0
returns-then-point-eq0 c = omega (arith, close_start c.args.n c.args.point (omega arith))

pub returns-else-point-eq0 : goal.returns-else-point-eq0
returns-else-point-eq0 c = omega (arith, close_event c.args.n c.args.point (omega arith))
