-- What `flag_counts` keeps true: the flags of the events so far are counted.

use mathlib.Core.Path.{◌≡◌}
use lib.Dec.{eqb}
use lib.ListN.{get_or}
use Rattle.ticket.specs.Format.{flag_counts}
use Rattle.ticket.specs.Writing.{firsts}
use Rattle.ticket.proofs.flag_counts.Given as goal

abbrev pub invariant-loop-i : goal.invariant-loop-i
invariant-loop-i l = l.counts ≡ flag_counts (firsts l.i (λ j. get_or l.owners j 0)) (firsts l.i (λ j. eqb (get_or l.flags j 0) 1))
