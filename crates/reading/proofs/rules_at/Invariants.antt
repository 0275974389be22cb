-- What `rules_at` keeps true: that of `owners_at`, with one list for the three arrays.
use Prim.Native.Nat.{◌+◌, ◌*◌, ◌-◌, ◌≤◌}
use mathlib.Core.Path.{◌≡◌}
use mathlib.Core.List.{List}
use lib.ListN.{length, drop}
use Rattle.ticket.specs.Parser.{many}
use Rattle.temporal.specs.Ticket.{Rule}
use Rattle.ticket.specs.Format.{read_rule}
use Rattle.reading.specs.Parts.{rules_of}
use Rattle.ticket.specs.Laws.{after}
use Rattle.reading.proofs.rules_at.Given as goal

abbrev pub invariant-loop-i : goal.invariant-loop-i
invariant-loop-i l = (rs : List Rule)
    × (l.at + 6 * l.i ≤ length l.s)
    × (length rs ≡ l.i)
    × (l.from ≡ (rules_of rs).from)
    × (l.to ≡ (rules_of rs).to)
    × (l.bound ≡ (rules_of rs).bound)
    × (many (read_rule l.n) l.m (drop l.at l.s) ≡ after rs (many (read_rule l.n) (l.m - l.i) (drop (l.at + 6 * l.i) l.s)))
