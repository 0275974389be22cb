-- The invariant: the numbers so far are stored after the count.
use mathlib.Core.Path.{◌≡◌}
use lib.ListN.{length}
use lib.Seq.{sets}
use Rattle.network.specs.Stored.{at}
use Rattle.ticket.specs.Writer.{bytes, each}
use Rattle.ticket.specs.Writing.{firsts}
use Rattle.mend.proofs.put_numbers.Given as goal

abbrev pub invariant-loop-i : goal.invariant-loop-i
invariant-loop-i l = (length l.list ≡ length l.initial.list) × (l.list ≡ sets l.initial.list 2 (each (bytes 2) (firsts l.i (at l.numbers))))
