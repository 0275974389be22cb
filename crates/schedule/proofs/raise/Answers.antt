-- `raise` meets its contract.
use native.Mathlib.Omega.{arith}
use Prim.Native.Nat.{◌≤◌}
use Rattle.demands.specs.Cost.{biased_most}
use Rattle.demands.specs.Rules.{given_bound}
use Rattle.schedule.proofs.raise.Goals as goal

pub overflow_add-times : goal.overflow_add-times
overflow_add-times c = let G = c.requires.given in
    let l = c.requires.j_in_bounds in
    let cost_most : c.cost-cost.result ≤ 2000000 = rw (c.cost-cost.ensures, given_bound G c.args.j l) (biased_most _ (G.high c.args.j l)) in
    let top = G.top in
    omega (arith, c.requires.low.most c.from-from.result (omega (arith, G.from_point c.args.j l)))
