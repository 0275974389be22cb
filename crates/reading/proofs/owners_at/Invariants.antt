-- What `owners_at` keeps true: a list xs of as many owners as were read fills the array from the front, and what is left to read, put after xs, is the whole reading.
use Prim.Native.Nat.{ℕ, ◌+◌, ◌-◌, ◌≤◌}
use mathlib.Core.Path.{◌≡◌}
use mathlib.Core.List.{List}
use lib.ListN.{length, drop}
use Rattle.ticket.specs.Parser.{many}
use Rattle.ticket.specs.Format.{read_owner}
use Rattle.ticket.specs.Stored.{pad}
use Rattle.ticket.specs.Laws.{after}
use Rattle.reading.proofs.owners_at.Given as goal

abbrev pub invariant-loop-i : goal.invariant-loop-i
invariant-loop-i l = (xs : List ℕ)
    × (l.at + l.i ≤ length l.s)
    × (length xs ≡ l.i)
    × (l.owners ≡ pad 0 40 xs)
    × (many read_owner l.n (drop l.at l.s) ≡ after xs (many read_owner (l.n - l.i) (drop (l.at + l.i) l.s)))
