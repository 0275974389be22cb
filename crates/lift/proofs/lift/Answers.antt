-- `lift` meets its contract: node a is raised, and what follows from it; where that ends the lift, the potential is put back.
use native.Mathlib.Omega.{arith}
use Prim.Native.Nat.{ℕ, ◌≤◌, ◌<◌}
use mathlib.Core.Path.{refl}
use Rattle.network.specs.Stored.{at, pot_bound}
use Rattle.lift.specs.Lift.{start_ready, spread_low, lift_held, lift_ends}
use Rattle.lift.proofs.lift.Goals as goal
use Rattle.lift.proofs.lift.Goals.{Start}

-- no node is high
bound : (c : Start) → (v : ℕ) → v < c.args.edges.now.nodes → at c.args.pot.now v ≤ 1000000
bound c = pot_bound _ _ _ _ c.args.edges.now.network c.requires.potential

pub overflow_add-pot : goal.overflow_add-pot
overflow_add-pot c = omega (arith, bound (goal.at.overflow_add-pot c).Start c.args.b c.requires.a_lt_nodes.1)

pub spread-requires : goal.spread-requires
spread-requires c =
    let l = c.requires.a_lt_nodes in
    rw c.new-queue.ensures
    (start_ready c.args.edges.now.network c.requires.potential l.0 l.1 l.2 l.3 c.if-a-b.false (bound (goal.at.spread-requires c).Start))

pub shift-requires-clause-pot_len : goal.shift-requires-clause-pot_len
shift-requires-clause-pot_len c =
    let l = c.requires.a_lt_nodes in
    let S = rw c.new-queue.ensures at c.in-Ok.ensures in
    (S.long refl, spread_low c.args.edges.now.network c.requires.potential l.0 l.1 l.2 l.3 c.if-a-b.false (bound (goal.at.shift-requires-clause-pot_len c).Start) S)

pub returns-in-Ok : goal.returns-in-Ok
returns-in-Ok c =
    let l = c.requires.a_lt_nodes in
    let S = rw c.new-queue.ensures at c.in-Ok.ensures in
    lift_held c.args.edges.now.network c.requires.potential l.0 l.1 l.2 l.3 c.if-a-b.false (bound (goal.at.returns-in-Ok c).Start) S c.shift.ensures

pub returns-in-Err : goal.returns-in-Err
returns-in-Err c =
    let l = c.requires.a_lt_nodes in
    lift_ends c.args.edges.now.network c.requires.potential l.0 l.1 l.2 l.3 c.if-a-b.false (bound (goal.at.returns-in-Err c).Start) (rw c.new-queue.ensures at c.in-Err.ensures)
