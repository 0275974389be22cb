-- `box_room` meets its contract. The invariant is the contract for the nodes passed.
use Rattle.edge.specs.Headroom.{BoxRoom}
use Rattle.edge.proofs.box_room.Given as goal

abbrev pub invariant-loop-v : goal.invariant-loop-v
invariant-loop-v l = BoxRoom l.edges.net.now l.pot l.v l.best
