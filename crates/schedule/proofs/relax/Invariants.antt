-- The invariants: the times stay within the horizon and the rules from `kept` on hold; inside, the laws of Rounds.
use Rattle.schedule.specs.Schedule.{Low}
use Rattle.schedule.specs.Relax.{HoldFrom, Rounds}
use Rattle.schedule.proofs.relax.Given as goal

abbrev pub invariant-loop-j : goal.invariant-loop-j
invariant-loop-j l = Rounds l.t l.kept l.times l.last l.j

abbrev pub invariant-loop : goal.invariant-loop
invariant-loop l = Low l.t.events l.t.horizon l.times × HoldFrom l.t l.times l.kept
