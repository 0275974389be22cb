-- `lay_earliest` meets its contract. The invariant: the pairs of the first i events are stored.
use Prim.Native.Nat.{ℕ, suc, ◌-◌}
use Rattle.network.specs.Stored.{at}
use Rattle.potentials.specs.Pairs.{Pairs}
use Rattle.closure.specs.Matrix.{entry}
use Rattle.part_network.proofs.lay_earliest.Given as goal

abbrev pub invariant-loop-i : goal.invariant-loop-i
invariant-loop-i l = Pairs l.n (λ (q : ℕ). 2000000 - entry l.w (at l.points (suc q)) 0) (λ (q : ℕ). 2000000 - entry l.w (at l.points (suc q)) 0) l.pot l.i
