-- `close` meets its contract: the test tells whether there is a schedule, and then all stops leave the distances.
use native.Mathlib.Omega.{arith}
use mathlib.Core.Path.{sym, subst, ◌∙◌}
use lib.Dec.{T}
use Rattle.ticket.proofs.Content.{limits}
use Rattle.potentials.specs.Arrays.{valid_given}
use Rattle.schedule.specs.Schedule.{low_zeros}
use Rattle.closure.specs.Matrix.{entry}
use Rattle.stops.proofs.Steps.{first_top}
use Rattle.part_windows.specs.Entries.{decided_tells, stops_kept, stops_distances}
use Rattle.part_windows.proofs.close.Goals as goal

pub schedule-requires : goal.schedule-requires
schedule-requires c = let t = c.args.t in
    let L = limits t c.requires in record {
      given = valid_given t c.requires;
      rules_in_bounds = omega (arith, L.few, L.most);
      low = low_zeros _ _;
    }

pub returns-then-not-schedule : goal.returns-then-not-schedule
returns-then-not-schedule c = sym (sym (c.if-not-schedule.true) ∙ decided_tells c.args.t c.requires c.schedule.ensures.decided)

pub overflow_add-n : goal.overflow_add-n
overflow_add-n c = omega (arith, (limits c.args.t c.requires).few)

pub take_stops-requires : goal.take_stops-requires
take_stops-requires c = let t = c.args.t in
    let D = entry c.first_entries-entries.result in
    let given = c.first_entries-entries.ensures in
    let has = subst T (sym (c.if-not-schedule.false) ∙ decided_tells t c.requires c.schedule.ensures.decided) tt in record {
      n_bound = ((limits t c.requires).few, omega arith, given.0);
      above_floors = stops_kept t c.requires has D given.1;
      everywhere = first_top t c.requires D given.1;
    }

pub returns : goal.returns
returns c = let t = c.args.t in
    let D = entry c.first_entries-entries.result in
    let given = c.first_entries-entries.ensures in
    let e = sym (c.if-not-schedule.false) ∙ decided_tells t c.requires c.schedule.ensures.decided in
    (sym e, stops_distances t c.requires (subst T e tt) D given.1 _ c.take_stops.ensures)
