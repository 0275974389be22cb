-- What `counts_at` keeps true: what was read so far stands before what is left to read.
use Prim.Native.Nat.{ℕ, ◌+◌, ◌*◌, ◌≤◌}
use mathlib.Core.Path.{◌≡◌}
use mathlib.Core.List.{List}
use lib.ListN.{length, drop}
use Rattle.ticket.specs.Format.{each_count}
use Rattle.ticket.specs.Stored.{pad}
use Rattle.ticket.specs.Laws.{after}
use Rattle.reading_records.proofs.counts_at.Given as goal

abbrev pub invariant-loop-o : goal.invariant-loop-o
invariant-loop-o l = (ks : List ℕ)
    × (l.at + 2 * l.o ≤ length l.s)
    × (length ks ≡ l.o)
    × (l.counts ≡ pad 0 5 ks)
    × (each_count l.xs (drop l.at l.s) ≡ after ks (each_count (drop l.o l.xs) (drop (l.at + 2 * l.o) l.s)))
