-- `center` meets its contract: the nodes rise by half the headroom, and then the lo nodes fall.
use native.Mathlib.Omega.{arith}
use Rattle.network.specs.Stored.{pot_bound}
use Rattle.warm.proofs.center.Goals as goal

pub shift-requires : goal.shift-requires
shift-requires c = let small = c.headroom-room.ensures.small in record {
  pot_len = (c.requires.potential.long, omega arith, c.args.edges.now.network.few, omega (arith, small));
  by_index = pot_bound _ _ _ _ c.args.edges.now.network c.requires.potential;
}
