-- `mirror_windows` meets its contract.
use Rattle.std.proofs.Common.{◌≡◌, arith}
use Rattle.mirror.proofs.Structs.{exchanged_windows}
use Rattle.mirror.proofs.mirror_windows.Goals as goal

pub returns-clause-closes_after : goal.returns-clause-closes_after
returns-clause-closes_after c = let e : c.loop-i.i ≡ c.args.n = omega arith in
    exchanged_windows (rw e at c.loop-i.invariant)
