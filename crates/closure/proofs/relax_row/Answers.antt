-- `relax_row` meets its contract. The loop has stored the columns below j. Assumes nothing.
use Rattle.closure.specs.Rows.{row_stays}
use Rattle.closure.proofs.relax_row.Goals as goal

pub returns-then-a-eq-NONE : goal.returns-then-a-eq-NONE
returns-then-a-eq-NONE c = (c.requires.n_bound.3, row_stays c.args.n c.args.k c.args.i _ _ c.requires.stored_rows c.if-a-eq-NONE.true)
