-- `cost` meets its contract.
use Rattle.part_network.specs.Lay.{biased_lower}
use Rattle.part_network.proofs.Distances.cost.Goals as goal

pub returns : goal.returns
returns c = biased_lower _ (c.args.self.now.ranged.low c.args.i c.args.j c.requires.0 c.requires.1)
