-- `plan_windows` meets its contract, by those of `schedule` and `place`.
use Rattle.std.proofs.Common.{sym}
use Rattle.potentials.specs.Arrays.{valid_given, within_same}
use Rattle.network.specs.Lists.{differ}
use Rattle.schedule.specs.Schedule.{low_zeros}
use Rattle.windows.specs.Settle.{plan_answer, plan_lies, plan_none}
use Rattle.windows.proofs.plan_windows.Goals as goal

pub schedule-requires-clause-low : goal.schedule-requires-clause-low
schedule-requires-clause-low c = low_zeros _ _

pub returns-then-not-schedule-clause-planned : goal.returns-then-not-schedule-clause-planned
returns-then-not-schedule-clause-planned c = record {
  answer = plan_none (valid_given c.args.t c.requires.valid) c.schedule.ensures.decided c.if-not-schedule.true;
  lie = λ e. differ (sym e);
  opens_past = within_same _ _;
  closes_past = within_same _ _;
}

pub returns-clause-planned : goal.returns-clause-planned
returns-clause-planned c = let G = valid_given c.args.t c.requires.valid in record {
  answer = plan_answer G _ _ c.place.ensures.chosen c.schedule.ensures.decided c.if-not-schedule.false;
  lie = λ e. plan_lies G _ _ c.place.ensures.chosen;
  opens_past = c.place.ensures.within.0;
  closes_past = c.place.ensures.within.1;
}
