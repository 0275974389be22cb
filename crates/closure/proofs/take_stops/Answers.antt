-- `take_stops` meets its contract. The loop has taken so many stops. Assumes nothing.
use native.Mathlib.Omega.{arith}
use Prim.Native.Nat.{◌-◌}
use Rattle.closure.specs.Matrix.{entry}
use Rattle.closure.specs.Stops.{after}
use Rattle.closure.specs.Closing.{closing_none, closing_stored, closing_kept}
use Rattle.closure.proofs.take_stops.Goals as goal

pub loop-taken-init : goal.loop-taken-init
unfolding after
loop-taken-init c = (c.requires.n_bound.2, closing_none c.args.n (entry c.args.w.now) (c.requires.above_floors 0 (omega arith)))

pub stop-requires-clause-everywhere : goal.stop-requires-clause-everywhere
stop-requires-clause-everywhere c = closing_stored c.args.n (entry c.args.w.now) (entry c.loop-taken.w) c.loop-taken.taken c.loop-taken.invariant.1 c.requires.everywhere

pub loop-taken-preserved : goal.loop-taken-preserved
loop-taken-preserved c = let kept = c.requires.above_floors in (
  c.stop.ensures.w_len,
  closing_kept c.args.n (entry c.args.w.now) (entry c.loop-taken.w) c.loop-taken.taken c.loop-taken.invariant.1 (entry c.stop.new.w)
      (c.args.n - c.loop-taken.taken) (omega arith) c.stop.ensures.everywhere_2 c.stop.ensures.carried (λ r l. kept r (omega arith)),
)
