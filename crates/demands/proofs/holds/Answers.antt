-- `holds` meets its contract.
use native.Mathlib.Omega.{arith}
use Prim.Native.Nat.{◌≤◌}
use Rattle.demands.specs.Cost.{biased_most}
use Rattle.demands.specs.Rules.{given_bound}
use Rattle.demands.proofs.holds.Goals as goal

pub overflow_add-result-2 : goal.overflow_add-result-2
overflow_add-result-2 c = let G = c.requires.given in
    let l = c.requires.j_in_bounds in
    let cost_most : c.cost.result ≤ 2000000 = rw (c.cost.ensures, given_bound G c.args.j l) (biased_most _ (G.high c.args.j l)) in
    omega (arith, c.requires.n_le_events.1 c.from-2.result (omega (arith, G.from_point c.args.j l)))
