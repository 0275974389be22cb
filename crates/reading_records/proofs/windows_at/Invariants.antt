-- What `windows_at` keeps true: that of `rules_at` of crate reading, with one list of windows for the three arrays.
use Prim.Native.Nat.{◌+◌, ◌*◌, ◌-◌, ◌≤◌}
use mathlib.Core.Path.{◌≡◌}
use mathlib.Core.List.{List}
use lib.ListN.{length, drop}
use Rattle.ticket.specs.Parser.{many}
use Rattle.ticket.specs.Format.{Entry, read_window}
use Rattle.reading_records.specs.Parts.{windows_of}
use Rattle.ticket.specs.Laws.{after}
use Rattle.reading_records.proofs.windows_at.Given as goal

abbrev pub invariant-loop-i : goal.invariant-loop-i
invariant-loop-i l = (es : List Entry)
    × (l.at + 9 * l.i ≤ length l.s)
    × (length es ≡ l.i)
    × (l.flags ≡ (windows_of es).flags)
    × (l.opens ≡ (windows_of es).opens)
    × (l.closes ≡ (windows_of es).closes)
    × (many (read_window l.h) l.n (drop l.at l.s) ≡ after es (many (read_window l.h) (l.n - l.i) (drop (l.at + 9 * l.i) l.s)))
