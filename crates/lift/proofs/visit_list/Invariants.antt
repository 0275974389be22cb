-- `visit_list` meets its contract. The invariant: of the listed edges into v those up to the next one are left.
use Prim.Native.Nat.{◌*◌, ◌-◌}
use Rattle.std.specs.Prelude.{Ok}
use Rattle.network.specs.Index.{Listed, Unlisted, listed_as}
use Rattle.lift.specs.Lift.{Passes, ListedBelow}
use Rattle.lift.proofs.visit_list.Given as goal

abbrev pub invariant-loop-next : goal.invariant-loop-next
invariant-loop-next l =
    record {
      next : Unlisted l.edges.net.now l.edges.m (2 * l.edges.nodes - 2) 1 l.v (listed_as l.next);
      passes : Passes l.edges.net.now l.edges.m l.edges.nodes l.b l.initial.pot l.initial.queue l.pot l.queue (Ok tt) (Listed l.edges.net.now (2 * l.edges.nodes - 2) 1 l.v) (ListedBelow l.edges.net.now (2 * l.edges.nodes - 2) l.v (listed_as l.next));
    }

abbrev pub decreases-loop-next : goal.decreases-loop-next
decreases-loop-next l = listed_as l.next
