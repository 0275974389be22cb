-- What `put_windows` keeps true: the windows so far are stored from the place `at`.
use mathlib.Core.Path.{◌≡◌}
use lib.ListN.{length}
use lib.Seq.{sets}
use Rattle.ticket.specs.Writer.{each, write_window}
use Rattle.ticket.specs.Writing.{firsts, entry_in}
use Rattle.writing_records.proofs.put_windows.Given as goal

abbrev pub invariant-loop-i : goal.invariant-loop-i
invariant-loop-i l = (length l.out ≡ length l.initial.out) × (l.out ≡ sets l.initial.out l.at (each write_window (firsts l.i (entry_in l.r))))
