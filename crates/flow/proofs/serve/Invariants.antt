-- `serve` meets its contract. The invariant: the events before i want no more, and what stands past the nodes' times is as it was. Each turn of the inner loop sends some units.
use Prim.Native.Nat.{◌+◌, ◌*◌}
use Rattle.network.specs.Stored.{at, Beyond}
use Rattle.flow.specs.Solve.{Sending}
use Rattle.flow.proofs.serve.Given as goal

abbrev pub invariant-loop-i : goal.invariant-loop-i
invariant-loop-i l = record { sending : Sending l.fn.net l.net l.m l.n l.pot l.weight l.supply l.demand l.i; rest : Beyond l.fn.pot l.pot (2 * l.n + 1) }

abbrev pub invariant-loop-demand : goal.invariant-loop-demand
invariant-loop-demand l = record { sending : Sending l.fn.net l.net l.m l.n l.pot l.weight l.supply l.demand l.i; rest : Beyond l.fn.pot l.pot (2 * l.n + 1) }

abbrev pub decreases-loop-demand : goal.decreases-loop-demand
decreases-loop-demand l = at l.demand l.i
