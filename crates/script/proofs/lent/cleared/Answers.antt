-- `script::lent::cleared` meets its contract: each return follows the tests that led there. Assumes nothing.
use Rattle.std.proofs.Common.{le-ltb, lt-ltb, eq-eqb, ne_eqb}
use Rattle.script.specs.Lent.{left_at}
use Rattle.script.proofs.lent.cleared.Goals as goal

pub returns-then-number-eq10 : goal.returns-then-number-eq10
unfolding left_at
returns-then-number-eq10 c = simp (eq-eqb _ _ c.if-number-eq10.true)

pub returns-then-i-lt2400 : goal.returns-then-i-lt2400
unfolding left_at
returns-then-i-lt2400 c = simp (ne_eqb _ _ c.if-number-eq10.false, lt-ltb _ _ c.if-i-lt2400.true)

pub returns-else-i-lt2400 : goal.returns-else-i-lt2400
unfolding left_at
returns-else-i-lt2400 c = simp (ne_eqb _ _ c.if-number-eq10.false, le-ltb _ _ c.if-i-lt2400.false)
