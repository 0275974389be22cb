-- `totals` meets its contract.
use mathlib.Core.List.{[], ◌∷◌}
use Rattle.temporal.specs.Lists.{tab}
use Rattle.part_windows.proofs.totals.Goals as goal

pub returns : goal.returns
unfolding tab
returns c = let e0 = c.part_of-camera.ensures.total in
    let e1 = c.part_of-wheel.ensures.total in
    let e2 = c.part_of-lamps.ensures.total in
    let e3 = c.part_of-stage.ensures.total in
    let e4 = c.part_of-database.ensures.total in
    λ i. e0 i ∷ e1 i ∷ e2 i ∷ e3 i ∷ e4 i ∷ []
