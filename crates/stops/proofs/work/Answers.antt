-- `stops::work` meets its contract: 9 without a schedule; with one the entries after so many stops are written. Assumes nothing.
use Prim.Native.Nat.{◌+◌, min}
use mathlib.Core.Path.{◌≡◌, sym, subst, ◌∙◌}
use native.Mathlib.Omega.{arith}
use lib.Dec.{T}
use Rattle.temporal.specs.Distance.{consistent}
use Rattle.ticket.specs.Writing.{content}
use Rattle.ticket.proofs.Content.{limits}
use Rattle.closure.specs.Matrix.{entry, Everywhere}
use Rattle.closure.specs.Stops.{after}
use Rattle.stops.proofs.After.{worked_none}
use Rattle.stops.proofs.Steps.{first_top, stops_kept, stops_small, stops_written}
use Rattle.stops.proofs.work.Goals as goal
use Rattle.stops.proofs.work.Goals.{After-first_entries-w, After-take_stops, Else-not-has_schedule}

-- the ticket has a schedule
has : (c : Else-not-has_schedule) → T (consistent (content c.args.t))
has c = subst T (sym c.if-not-has_schedule.false ∙ c.has_schedule.ensures) tt

-- so many stops are taken
taken : (c : After-first_entries-w) → c.min-taken.result ≡ min c.args.stops (c.args.t.events + 1)
taken c = c.min-taken.ensures

-- the entries after them
after_taken : (c : After-take_stops) → Everywhere c.args.t.events (λ i j. entry c.take_stops.new.w i j ≡ after c.args.t.events (entry c.first_entries-w.result) (min c.args.stops (c.args.t.events + 1)) i j)
after_taken c = rw (← c.min-taken.ensures) c.take_stops.ensures

pub returns-then-not-has_schedule : goal.returns-then-not-has_schedule
returns-then-not-has_schedule c = sym (worked_none (content c.args.t) c.args.stops c.args.out.now (sym c.has_schedule.ensures ∙ c.if-not-has_schedule.true))

pub overflow_add-n : goal.overflow_add-n
overflow_add-n c = record { fits = omega (arith, (limits c.args.t c.requires.0).few) }

pub take_stops-requires : goal.take_stops-requires
take_stops-requires c = let t = c.args.t in
    let given = c.first_entries-w.ensures in record {
      n_bound = ((limits t c.requires.0).few, omega (arith, taken (goal.at.take_stops-requires c).After-first_entries-w), given.0);
      above_floors = rw (taken (goal.at.take_stops-requires c).After-first_entries-w) (stops_kept t c.requires.0 (entry c.first_entries-w.result) given.1 (has (goal.at.take_stops-requires c).Else-not-has_schedule) c.args.stops);
      everywhere = first_top t c.requires.0 (entry c.first_entries-w.result) given.1;
    }

pub write-requires : goal.write-requires
write-requires c = let t = c.args.t in record {
  n_bound = ((limits t c.requires.0).few, omega arith);
  everywhere = stops_small t c.requires.0 (entry c.first_entries-w.result) c.first_entries-w.ensures.1 (has (goal.at.write-requires c).Else-not-has_schedule) c.args.stops (entry c.take_stops.new.w) (after_taken (goal.at.write-requires c).After-take_stops);
}

pub returns : goal.returns
returns c = let t = c.args.t in
    stops_written t c.requires.0 (entry c.first_entries-w.result) c.first_entries-w.ensures.1 (has (goal.at.returns c).Else-not-has_schedule) c.args.stops (entry c.take_stops.new.w) (after_taken (goal.at.returns c).After-take_stops)
    c.args.out.now _ (omega arith) c.write.ensures
