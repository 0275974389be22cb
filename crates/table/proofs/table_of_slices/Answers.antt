-- `table_of_slices` meets its contract. Assumes nothing.
use Rattle.std.proofs.Common.{arith, min, length}
use Rattle.std.proofs.lemmas.Result.{err_from_is_err_and}
use Rattle.temporal.proofs.Lists.{length_tab}
use Rattle.table.specs.Lent.{flat_at, rules_of}
use Rattle.table.proofs.table_of_slices.Goals as goal

pub returns-in_err-test_limits : goal.returns-in_err-test_limits
returns-in_err-test_limits c =
    let p = err_from_is_err_and c.from_residual.result c.from_residual.ensures.1 in
    let a = c.args in
    let count = min (length a.from.now) (min (length a.to.now) (length a.bound.now)) in
    rw (p.1, p.2) (c.in_err-test_limits.ensures (rules_of count a.from.now a.to.now a.bound.now) (omega (arith, length_tab count (flat_at a.from.now a.to.now a.bound.now))))
