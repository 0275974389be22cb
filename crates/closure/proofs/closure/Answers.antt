-- `closure` meets its contract. Before the stop k no entry is below its floor. Assumes nothing.
use Prim.Native.Nat.{◌+◌, ◌-◌}
use mathlib.Core.Path.{◌≡◌}
use native.Mathlib.Omega.{arith}
use Rattle.closure.specs.Matrix.{entry}
use Rattle.closure.specs.Closing.{Closing, closing_none, closing_stored, closing_more, closing_stop, closing_all}
use Rattle.closure.proofs.closure.Goals as goal
use Rattle.closure.proofs.closure.Goals.{Else-not-possible}

-- after the stop k no entry is
more : (c : Else-not-possible) → Closing c.args.n (entry c.args.w.now) (entry c.stop.new.w) (c.args.n - c.loop-k.k + 1)
more c =
    closing_more c.args.n (entry c.args.w.now) (entry c.loop-k.w) (c.args.n - c.loop-k.k) c.loop-k.invariant.1 (entry c.stop.new.w) c.loop-k.k (omega arith)
    c.stop.ensures.everywhere_2 c.stop.ensures.carried (c.possible.ensures.good c.if-not-possible.false)

pub loop-k-init : goal.loop-k-init
loop-k-init c = let first : c.args.n - c.args.n ≡ 0 = omega arith in
    (c.requires.n_bound.1, rw first (closing_none c.args.n (entry c.args.w.now) c.requires.floors))

pub stop-requires-clause-everywhere : goal.stop-requires-clause-everywhere
stop-requires-clause-everywhere c = closing_stored c.args.n (entry c.args.w.now) (entry c.loop-k.w) (c.args.n - c.loop-k.k) c.loop-k.invariant.1 c.requires.everywhere

pub returns-then-not-possible : goal.returns-then-not-possible
returns-then-not-possible c =
    closing_stop c.args.n (entry c.args.w.now) (entry c.loop-k.w) (c.args.n - c.loop-k.k) c.loop-k.invariant.1 (entry c.stop.new.w) c.loop-k.k (omega arith)
    c.stop.ensures.everywhere_2 c.stop.ensures.carried (c.possible.ensures.bad c.if-not-possible.true)

pub loop-k-preserved : goal.loop-k-preserved
loop-k-preserved c = let next : c.args.n - (c.loop-k.k - 1) ≡ c.args.n - c.loop-k.k + 1 = omega arith in
    (c.stop.ensures.w_len, rw next (more (goal.at.loop-k-preserved c).Else-not-possible))

pub returns-else-not-possible : goal.returns-else-not-possible
returns-else-not-possible c = closing_all c.args.n (entry c.args.w.now) (entry c.stop.new.w) (c.args.n - c.loop-k.k + 1) (omega arith) (more (goal.at.returns-else-not-possible c).Else-not-possible)
