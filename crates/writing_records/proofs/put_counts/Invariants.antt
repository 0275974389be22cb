-- What `put_counts` keeps true: the counts so far are stored from the place `at`.
use mathlib.Core.Path.{◌≡◌}
use lib.ListN.{length}
use lib.Seq.{sets}
use Rattle.ticket.specs.Writer.{bytes, each}
use Rattle.ticket.specs.Writing.{firsts, count_in}
use Rattle.writing_records.proofs.put_counts.Given as goal

abbrev pub invariant-loop-o : goal.invariant-loop-o
invariant-loop-o l = (length l.out ≡ length l.initial.out) × (l.out ≡ sets l.initial.out l.at (each (bytes 2) (firsts l.o (count_in l.r))))
