-- `members` meets its contract. The invariant: the device's events among the first i are placed.
use native.Mathlib.Omega.{arith}
use Rattle.network.specs.Stored.{at}
use Rattle.ticket.proofs.WritingLaws.{length_firsts}
use Rattle.part_network.specs.Points.{placed_none, placed_more}
use Rattle.part_network.proofs.members.Goals as goal

pub loop-i-init : goal.loop-i-init
loop-i-init c = placed_none _ _ _ c.requires.1 c.requires.2

pub add_member-m-requires : goal.add_member-m-requires
add_member-m-requires c = let P = c.loop-i.invariant in
    (P.long, omega (arith, P.few, length_firsts c.loop-i.i (at c.args.owners.now)))

pub loop-i-preserved : goal.loop-i-preserved
loop-i-preserved c = placed_more (at c.args.owners.now) c.loop-i.i (omega arith) c.loop-i.invariant c.add_member-m.ensures
