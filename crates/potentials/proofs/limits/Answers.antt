-- `limits` meets its contract. The invariant: the first i windows may grow, unless they are committed.
use native.Mathlib.Omega.{arith}
use mathlib.Core.Path.{ap, ◌∙◌}
use lib.ListN.{length}
use Rattle.potentials.specs.Pairs.{loosened_none, loosened_length, grown_by}
use Rattle.potentials.proofs.limits.Goals as goal

pub loop-i-init : goal.loop-i-init
loop-i-init c = (loosened_none _ _ _ _, loosened_none _ _ _ _)

pub free-requires : goal.free-requires
free-requires c = let h = c.loop-i.invariant in
    (omega arith, omega arith, ap length h.0 ∙ loosened_length _ _ _ _ _ ∙ c.requires.low_len.0, ap length h.1 ∙ loosened_length _ _ _ _ _ ∙ c.requires.low_len.1)

pub loop-i-preserved : goal.loop-i-preserved
loop-i-preserved c = let h = c.loop-i.invariant in
    let s = c.args in
    let i = c.loop-i.i in (
      grown_by 0 0 s.flags.now i s.low.now (omega arith) h.0 c.free.ensures.low_after,
      grown_by s.n s.horizon
          s.flags.now i s.high.now (omega arith) h.1 c.free.ensures.high_after,
    )
