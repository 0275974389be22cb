-- `lower` meets its contract: a search for no goal reaches every node.
use Rattle.network.specs.Lists.{zeros_at}
use Rattle.flow.proofs.lower.Goals as goal

pub returns : goal.returns
returns c = record {
  lowered = record { stamp = _; via = _; goal = _; end = c.reach.result; reached = c.reach.ensures.reached; none = zeros_at 81 };
  beyond = c.reach.ensures.beyond;
}
