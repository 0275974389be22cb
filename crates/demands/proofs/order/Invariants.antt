-- `order` meets its contract. The invariant: the events below i have their edges.
use Prim.Native.Nat.{◌*◌}
use Rattle.network.specs.Edges.{Extends}
use Rattle.demands.specs.Network.{Order}
use Rattle.demands.proofs.order.Given as goal

abbrev pub invariant-loop-i : goal.invariant-loop-i
invariant-loop-i l = Extends l.initial.net l.net (4 * l.n) × Order l.net l.n l.i
