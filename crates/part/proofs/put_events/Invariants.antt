-- The invariant: the events so far are stored after the count.
use mathlib.Core.Path.{◌≡◌}
use lib.ListN.{length}
use lib.Seq.{sets}
use Rattle.ticket.specs.Writer.{each}
use Rattle.ticket.specs.Writing.{firsts}
use Rattle.parts.specs.Parting.{write_numbered}
use Rattle.part.specs.Stored.{numbered_in}
use Rattle.part.proofs.put_events.Given as goal

abbrev pub invariant-loop-i : goal.invariant-loop-i
invariant-loop-i l = (length l.out ≡ length l.initial.out) × (l.out ≡ sets l.initial.out 2 (each write_numbered (firsts l.i (numbered_in l.points l.opens l.closes))))
