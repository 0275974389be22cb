-- `shown` meets its contract. Assumes nothing.
use mathlib.Core.Path.{sym, ap, ◌∙◌}
use mir.Facts.{to_z-of_z}
use Rattle.closure.specs.Signed.{lower_fits}
use Rattle.closure.specs.Matrix.{shown, shown_none, shown_some}
use Rattle.closure.proofs.shown.Goals as goal

pub returns-then-x-eq-NONE : goal.returns-then-x-eq-NONE
returns-then-x-eq-NONE c = sym (ap shown c.if-x-eq-NONE.true ∙ shown_none)

pub returns : goal.returns
returns c = let some = c.if-x-eq-NONE.false in
    rw c.lowered.ensures (to_z-of_z (lower_fits c.args.x (c.requires some)) ∙ sym (shown_some c.args.x some))
