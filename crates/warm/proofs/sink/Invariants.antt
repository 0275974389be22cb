-- `sink` meets its contract. The invariant: the potential fits, and what stands past the nodes is as it was.
use Prim.Native.Nat.{◌+◌, ◌*◌}
use Rattle.network.specs.Stored.{Beyond, Potential}
use Rattle.warm.proofs.sink.Given as goal

abbrev pub invariant-loop-v : goal.invariant-loop-v
invariant-loop-v l = Potential l.edges.net.now l.edges.m l.pot × Beyond l.initial.pot l.pot (2 * l.n + 1)
