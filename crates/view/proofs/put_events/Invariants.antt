-- The invariant: what is seen of the events so far is stored after the count.
use Prim.Native.Nat.{◌≤◌}
use mathlib.Core.Path.{◌≡◌}
use lib.ListN.{length}
use lib.Seq.{sets}
use Rattle.ticket.specs.Writer.{each}
use Rattle.ticket.specs.Writing.{state_of}
use Rattle.viewing.specs.View.{seen_to, write_seen}
use Rattle.view.proofs.put_events.Given as goal

abbrev pub invariant-loop-i : goal.invariant-loop-i
invariant-loop-i l = (l.n ≤ 40) × (length l.out ≡ length l.initial.out)
    × (l.k ≡ length (seen_to l.i l.caller (state_of l.r))) × (l.out ≡ sets l.initial.out 2 (each write_seen (seen_to l.i l.caller (state_of l.r))))
