-- What the parts of reading a record answer of a list of bytes: the program's structs, or the refusal.
use Rattle.std.specs.Prelude.{ℕ, List, map, drop, Result}
use Rattle.ticket.specs.Parser.{many}
use Rattle.ticket.specs.Format.{Entry, read_window, read_windows, read_count, each_count, read_counts}
use Rattle.ticket.specs.Refusal.{answer}
use Rattle.ticket.specs.Stored.{pad}
use Rattle.ticket.specs.Writer.{flag_byte}
use Rattle.ticket.specs.declared.Refusal.{Refusal}
use Rattle.reading_records.specs.declared.Window.{Window}
use Rattle.reading_records.specs.declared.Windows.{Windows}

-- ---- windows

abbrev pub window_of : Entry → Window
window_of e = record { flag = flag_byte e.committed; opens = e.window.opens; closes = e.window.closes }

-- The window at the place `at`, with the horizon h.
abbrev pub window_at : List ℕ → ℕ → ℕ → Result Window Refusal
window_at s at h = answer window_of (read_window h (drop at s))

abbrev pub windows_of : List Entry → Windows
windows_of es =
    record {
      flags = pad 0 40 (map (λ (e : Entry). flag_byte e.committed) es);
      opens = pad 0 40 (map (λ (e : Entry). e.window.opens) es);
      closes = pad 0 40 (map (λ (e : Entry). e.window.closes) es);
    }

-- The n windows from the place `at`, with the horizon h.
abbrev pub windows_at : List ℕ → ℕ → ℕ → ℕ → Result Windows Refusal
windows_at s at n h = answer windows_of (many (read_window h) n (drop at s))

-- The section of windows of n events at the place `at`, with the horizon h.
abbrev pub window_section : List ℕ → ℕ → ℕ → ℕ → Result Windows Refusal
window_section s at n h = answer windows_of (read_windows n h (drop at s))

-- ---- counts

-- The count at the place `at`, of a device with x flags set.
abbrev pub count_at : List ℕ → ℕ → ℕ → Result ℕ Refusal
count_at s at x = answer (λ k. k) (read_count x (drop at s))

-- A count for each x of a list, from the place `at`.
abbrev pub counts_at : List ℕ → ℕ → List ℕ → Result (List ℕ) Refusal
counts_at s at xs = answer (pad 0 5) (each_count xs (drop at s))

-- The section of counts at the place `at`, of devices with xs flags set.
abbrev pub count_section : List ℕ → ℕ → List ℕ → Result (List ℕ) Refusal
count_section s at xs = answer (pad 0 5) (read_counts xs (drop at s))
