-- `part_of` meets its contract, by those of its parts.
use mathlib.Core.Path.{◌∙◌}
use Rattle.part_windows.specs.Planned.{placed_given, part_few, part_lies, part_total_lem}
use Rattle.part_windows.proofs.part_of.Goals as goal

pub total_of-total-requires : goal.total_of-total-requires
total_of-total-requires c = let a = c.args in
    let p = c.requires in
    let P = placed_given a.t a.w.now p.0 p.1 c.members-events.ensures p.2 in
    (part_few P, part_lies P _ _ c.plan_points.ensures)

pub returns : goal.returns
returns c = let a = c.args in
    let p = c.requires in
    let P = placed_given a.t a.w.now p.0 p.1 c.members-events.ensures p.2 in
    let windows = c.plan_points.ensures in
    record {
      counted = P.counted;
      few = part_few P;
      places = P.places;
      windows = windows;
      total = c.total_of-total.ensures ∙ part_total_lem P _ _ windows;
    }
