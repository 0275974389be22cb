-- `build` meets its contract, by those of its parts. The invariant: the rules below j are stored.
use Prim.Native.Nat.{◌*◌}
use Rattle.network.specs.Edges.{Extends}
use Rattle.demands.specs.Network.{Ruled}
use Rattle.demands.proofs.build.Given as goal

abbrev pub invariant-loop-j : goal.invariant-loop-j
invariant-loop-j l = Extends l.initial.net l.net (5 * l.t.events) × Ruled l.net l.t l.t.events (5 * l.t.events) l.j
