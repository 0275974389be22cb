-- `stops::has_schedule` meets its contract: all stops tell whether there is a schedule. Assumes nothing.
use Rattle.ticket.proofs.Content.{limits}
use Rattle.closure.specs.Matrix.{entry}
use Rattle.stops.proofs.Steps.{first_floors, first_top, closed_tells}
use Rattle.stops.proofs.has_schedule.Goals as goal

pub closure-requires : goal.closure-requires
closure-requires c = let t = c.args.t in
    let D = entry c.first_entries-w.result in
    let given = c.first_entries-w.ensures in record {
      n_bound = ((limits t c.requires).few, given.0);
      floors = first_floors t c.requires D given.1;
      everywhere = first_top t c.requires D given.1;
    }

pub returns : goal.returns
returns c = closed_tells c.args.t c.requires (entry c.first_entries-w.result) c.first_entries-w.ensures.1 _ c.closure.ensures
