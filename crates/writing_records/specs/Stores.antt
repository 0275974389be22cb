-- Laws of stores in a row: what stands in the output after the parts of a record. Assumes nothing.
use Rattle.std.specs.Prelude.{ℕ, zero, suc, ◌+◌, ◌*◌, ◌≤◌, ◌≡◌, refl, List, [], ◌∷◌, ◌++◌, length, Bool}
use Rattle.std.proofs.Common.{sym, ap, ◌∙◌, arith, length-append}
use Rattle.std.proofs.lemmas.List.Edits.{sets}
use Rattle.temporal.specs.Ticket.{Window}
use Rattle.ticket.specs.Format.{Entry}
use Rattle.ticket.specs.Writer.{bytes, each, write_ticket, entries, write_window, write_state}
use Rattle.ticket.proofs.RoundTrip.{length_bytes, length_each, length_ticket, length_window}
use Rattle.ticket.specs.Writing.{firsts, owner_in, rule_in, committed_in, window_in, entry_in, count_in, state_of, content, over}
use Rattle.ticket.proofs.WritingLaws.{length_firsts}
use Rattle.writing.specs.Stores.{sets_each, sets_then, sets_over}
use Rattle.writing_records.specs.Parts.{plan_bytes}
use Rattle.ticket.specs.declared.Record.{Record}

-- One window more.
pub sets_window : (l : List ℕ) (at i : ℕ) (f : ℕ → Entry)
    → sets l at (each write_window (firsts (i + 1) f)) ≡ sets (sets l at (each write_window (firsts i f))) (at + 9 * i) (write_window (f i))
sets_window l at i f =
    sets_each write_window l at i f (at + 9 * i) (omega (arith, length_each write_window 9 length_window (firsts i f), length_firsts i f))

entries_snoc : (fs : List Bool) (ws : List Window) (f : Bool) (w : Window) → length fs ≡ length ws
    → entries (fs ++ f ∷ []) (ws ++ w ∷ []) ≡ entries fs ws ++ record { committed = f; window = w } ∷ []
unfolding entries
entries_snoc [] [] f w h = refl
entries_snoc [] (v ∷ ws) f w h = absurd (omega arith)
entries_snoc (e ∷ fs) [] f w h = absurd (omega arith)
entries_snoc (e ∷ fs) (v ∷ ws) f w h = ap (λ l. record { committed = e; window = v } ∷ l) (entries_snoc fs ws f w (omega arith))

-- The windows with their flags are those at the places 0, 1, 2 and so on.
pub entries_firsts : (r : Record) (n : ℕ) → entries (firsts n (committed_in r)) (firsts n (window_in r)) ≡ firsts n (entry_in r)
unfolding firsts entries
entries_firsts r zero = refl
entries_firsts r (suc n) =
    entries_snoc (firsts n (committed_in r)) (firsts n (window_in r)) (committed_in r n) (window_in r n)
    (length_firsts n (committed_in r) ∙ sym (length_firsts n (window_in r)))
    ∙ ap (λ l. l ++ entry_in r n ∷ []) (entries_firsts r n)

-- One count more.
pub sets_count : (l : List ℕ) (at i : ℕ) (f : ℕ → ℕ)
    → sets l at (each (bytes 2) (firsts (i + 1) f)) ≡ sets (sets l at (each (bytes 2) (firsts i f))) (at + 2 * i) (bytes 2 (f i))
sets_count l at i f =
    sets_each (bytes 2) l at i f (at + 2 * i) (omega (arith, length_each (bytes 2) 2 (length_bytes 2) (firsts i f), length_firsts i f))

-- The four parts after a record's ticket, one after the other.
pub sets_plan : (l : List ℕ) (r : Record) (at : ℕ) → let n = r.ticket.events in
    sets (sets (sets (sets l at (bytes 2 n)) (at + 2) (each write_window (firsts n (entry_in r)))) (at + 2 + 9 * n) (bytes 2 5))
    (at + 4 + 9 * n) (each (bytes 2) (firsts 5 (count_in r))) ≡ sets l at (plan_bytes r)
sets_plan l r at =
    let n = r.ticket.events in
    let es = firsts n (entry_in r) in
    sets_then (bytes 2 5) (each (bytes 2) (firsts 5 (count_in r))) _ (at + 2 + 9 * n) (at + 4 + 9 * n) (omega (arith, length_bytes 2 5))
    ∙ sets_then (each write_window es) _ _ (at + 2) (at + 2 + 9 * n) (omega (arith, length_each write_window 9 length_window es, length_firsts n (entry_in r)))
    ∙ sets_then (bytes 2 n) _ _ at (at + 2) (omega (arith, length_bytes 2 n))

-- The ticket, and what comes after it.
module _ (r : Record) where
  parts : write_state (state_of r) ≡ write_ticket (content r.ticket) ++ plan_bytes r
  unfolding write_state
  parts = rw (length_firsts r.ticket.events (window_in r), entries_firsts r r.ticket.events)

  long_ticket : length (write_ticket (content r.ticket)) ≡ 8 + r.ticket.events + 6 * r.ticket.rules
  long_ticket =
      let t = r.ticket in
      omega (arith, length_ticket (content t), length_firsts t.events (owner_in t), length_firsts t.rules (rule_in t))

  pub length_record : length (write_state (state_of r)) ≡ 22 + 10 * r.ticket.events + 6 * r.ticket.rules
  length_record =
      let n = r.ticket.events in
      let es = firsts n (entry_in r) in
      rw parts
      (simp length-append
      (omega (
        arith,
        long_ticket,
        length_bytes 2 n,
        length_each write_window 9 length_window es,
        length_firsts n (entry_in r),
        length_bytes 2 5,
        length_each (bytes 2) 2 (length_bytes 2) (firsts 5 (count_in r)),
        length_firsts 5 (count_in r),
      )))

  pub sets_record : (l : List ℕ) → r.ticket.events ≤ 40 → r.ticket.rules ≤ 256 → 1958 ≤ length l
      → sets (sets l 0 (write_ticket (content r.ticket))) (8 + r.ticket.events + 6 * r.ticket.rules) (plan_bytes r) ≡ over (write_state (state_of r)) l
  sets_record l few_events few_rules room =
      sets_then (write_ticket (content r.ticket)) (plan_bytes r) l 0 (8 + r.ticket.events + 6 * r.ticket.rules) (omega (arith, long_ticket))
      ∙ ap (sets l 0) (sym parts)
      ∙ sets_over (write_state (state_of r)) l (omega (arith, length_record))
