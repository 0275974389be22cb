-- The parts of a record as they are written: what comes after the record's ticket.
-- Then what is tested of a count, and written of a window. Assumes nothing.
use Rattle.std.specs.Prelude.{ℕ, ◌≤◌, ◌<◌, List, [], ◌++◌, get_or, ◌≡◌}
use Rattle.temporal.proofs.Lists.{get_d_tab}
use Rattle.ticket.specs.Format.{flag_counts, sound_count}
use Rattle.ticket.specs.Parser.{expect, layout}
use Rattle.ticket.specs.Refusal.{tested}
use Rattle.ticket.specs.Writer.{bytes, each, write_window, window_bytes}
use Rattle.ticket.specs.declared.Record.{Record}
use Rattle.std.proofs.Common.{sym, ap, ◌∙◌}
use Rattle.ticket.proofs.Fields.{flag_kept}
use Rattle.ticket.specs.Writing.{firsts, flag_in, window_in, entry_in, count_in, state_of, flags_of, test_count}

-- The bytes after a record's ticket.
abbrev pub plan_bytes : Record → List ℕ
plan_bytes r = bytes 2 r.ticket.events ++ (each write_window (firsts r.ticket.events (entry_in r)) ++ (bytes 2 5 ++ each (bytes 2) (firsts 5 (count_in r))))

-- A count is tested against the set flags of its device, which are among those of all devices, xs.
pub count_tested : (r : Record) (xs : List ℕ) (o : ℕ) → xs ≡ flag_counts (state_of r).ticket.owners (state_of r).flags → o < 5
    → tested (expect (sound_count (get_or xs o 0) (count_in r o)) layout []) ≡ tested (test_count r o [])
unfolding test_count
count_tested r xs o e l =
    ap (λ x. tested (expect (sound_count x (count_in r o)) layout [])) (ap (λ ys. get_or ys o 0) e ∙ get_d_tab 5 (flags_of r) 0 o l)

-- The bytes of a window with its flag.
pub window_written : (r : Record) (i : ℕ) → flag_in r i ≤ 1
    → window_bytes (flag_in r i) (window_in r i).opens (window_in r i).closes ≡ write_window (entry_in r i)
unfolding write_window
window_written r i h = ap (λ f. window_bytes f (window_in r i).opens (window_in r i).closes) (sym (flag_kept (flag_in r i) h))
