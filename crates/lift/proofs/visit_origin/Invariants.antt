-- `visit_origin` meets its contract. The invariant: of the box edges into the origin those from u on are left.
use Rattle.std.specs.Prelude.{Ok}
use Rattle.lift.specs.Lift.{Passes, AtNode, OriginFrom}
use Rattle.lift.proofs.visit_origin.Given as goal

abbrev pub invariant-loop-u : goal.invariant-loop-u
invariant-loop-u l = Passes l.edges.net.now l.edges.m l.edges.nodes l.b l.initial.pot l.initial.queue l.pot l.queue (Ok tt) (AtNode l.edges.net.now 0) (OriginFrom l.edges.net.now l.u)
