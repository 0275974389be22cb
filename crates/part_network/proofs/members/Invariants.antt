-- The invariant: the device's events among the first i are placed.
use Rattle.network.specs.Stored.{at}
use Rattle.ticket.specs.Writing.{firsts}
use Rattle.part_network.specs.Points.{Placed}
use Rattle.part_network.proofs.members.Given as goal

abbrev pub invariant-loop-i : goal.invariant-loop-i
invariant-loop-i l = Placed l.device (firsts l.i (at l.owners)) l.points l.m
