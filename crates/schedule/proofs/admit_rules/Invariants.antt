-- The invariant: the rules below j are in the network, and the times keep them.
use mathlib.Core.Path.{◌≡◌}
use lib.ListN.{length}
use Rattle.schedule.specs.Schedule.{Tried}
use Rattle.schedule.proofs.admit_rules.Given as goal

abbrev pub invariant-loop-j : goal.invariant-loop-j
invariant-loop-j l = (length l.tails ≡ length l.initial.tails) × (length l.heads ≡ length l.initial.heads) × Tried l.net (length l.initial.net) l.t l.times l.tails l.heads l.j
