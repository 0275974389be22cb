-- What an accepted part of a reading tells: what was read, what is left, and that it was there. Assumes nothing.
use Rattle.std.specs.Prelude.{ℕ, ◌+◌, ◌*◌, ◌≤◌, ◌≡◌, List, [], eqb, length, get_or, drop, Ok}
use Rattle.std.proofs.Common.{sym, ap, ap₂, ◌∙◌, zero-add, arith, length-append, drop_at}
use Rattle.std.proofs.lemmas.List.{length-map}
use Rattle.std.proofs.lemmas.Simd.{map-map}
use Rattle.temporal.specs.Ticket.{Ticket, Window}
use Rattle.temporal.specs.Plan.{State}
use Rattle.ticket.specs.Parser.{got}
use Rattle.ticket.specs.Format.{size, Entry, flags_in, windows_in, state_size, flag_counts, read_ticket, read_window, read_same, read_windows, read_counts, read_state}
use Rattle.ticket.specs.Refusal.{tested}
use Rattle.ticket.specs.RoundTrip.{Bytes}
use Rattle.ticket.specs.Stored.{pad, stored, stored_state}
use Rattle.ticket.specs.Writer.{flag_byte, write_ticket}
use Rattle.ticket.specs.Writing.{firsts}
use Rattle.ticket.specs.declared.ReadTicket.{ReadTicket}
use Rattle.ticket.specs.declared.Record.{Record}
use Rattle.ticket.specs.declared.Ticket as struct
use Rattle.ticket.proofs.Agree.{content_stored, flags_stored}
use Rattle.ticket.proofs.Fields.{same_fixed, windows_fixed}
use Rattle.ticket.proofs.Refusals.{was_ok}
use Rattle.ticket.proofs.RoundTrip.{ticket_back, length_ticket}
use Rattle.ticket.proofs.Stages.{whole_state}
use Rattle.ticket.proofs.Width.{stage, many_length}
use Rattle.reading.specs.Parts.{read_of, ticket_at}
use Rattle.reading.specs.Rest.{left_at}
use Rattle.reading_records.specs.Parts.{windows_of, window_section, count_section}
use Rattle.reading_records.specs.declared.Windows.{Windows}

pub same_got : (s : List ℕ) (at x : ℕ) → at ≤ length s → Ok tt ≡ tested (read_same x (drop at s))
    → (read_same x (drop at s) ≡ got tt (drop (at + 2) s)) × (at + 2 ≤ length s)
same_got s at x h e =
    let (u, t, q, _) = was_ok (λ y. y) (read_same x (drop at s)) e in
    left_at 2 (read_same x) (same_fixed x) s at tt t h q

as_many : (n h : ℕ) (s : List ℕ) (es : List Entry) (t : List ℕ) → read_windows n h s ≡ got es t → length es ≡ n
unfolding read_windows
as_many n h s es t e = stage (read_same n) _ s es t e (λ u s₁ en e₁. many_length (read_window h) n s₁ es t e₁)

-- The section of windows from a place on: as many are read as were asked for.
pub windows_got : (s : List ℕ) (at n h : ℕ) (w : Windows) → at ≤ length s → Ok w ≡ window_section s at n h
    → (es : List Entry) × (read_windows n h (drop at s) ≡ got es (drop (at + 2 + 9 * n) s)) × (w ≡ windows_of es) × (at + 2 + 9 * n ≤ length s) × (length es ≡ n)
windows_got s at n h w l e =
    let p = read_windows n h in
    let (es, t, q, same) = was_ok windows_of (p (drop at s)) e in
    let (g, room) = left_at (2 + n * 9) p (windows_fixed n h) s at es t l q in
    let nine : at + (2 + n * 9) ≡ at + 2 + 9 * n = omega arith in
    (es, g ∙ ap (λ k. got es (drop k s)) nine, same, omega (arith, room, nine), as_many n h (drop at s) es t q)

-- What the arrays of an accepted ticket and of its windows say of the flags of each device.
flags_told : (tk : struct.Ticket) (w : Windows) (t : Ticket) (es : List Entry) → tk ≡ stored t → w ≡ windows_of es → length es ≡ length t.owners
    → flag_counts (firsts tk.events (λ i. get_or tk.owners i 0)) (firsts tk.events (λ i. eqb (get_or w.flags i 0) 1)) ≡ flag_counts t.owners (flags_in es)
flags_told tk w t es et ew e =
    let s : State = record { ticket = t; windows = []; flags = flags_in es; counts = [] } in
    rw (et, ew)
    (ap₂ flag_counts
    (ap (λ (k : Ticket). k.owners) (content_stored t))
    (ap (λ fs. firsts (length t.owners) (λ i. eqb (get_or (pad 0 40 fs) i 0) 1)) (sym (map-map flag_byte (λ (y : Entry). y.committed) es))
    ∙ flags_stored s (length-map es (λ (y : Entry). y.committed) ∙ e)))

-- An accepted record is put together from its parts.
assembled_record : (tk : struct.Ticket) (w : Windows) (counts : List ℕ) (t : Ticket) (es : List Entry) (ks : List ℕ)
    → tk ≡ stored t → w ≡ windows_of es → counts ≡ pad 0 5 ks
    → ◌≡◌ {A = Record}
    (record { ticket = tk; flags = w.flags; opens = w.opens; closes = w.closes; counts = counts })
    (stored_state (record { ticket = t; windows = windows_in es; flags = flags_in es; counts = ks }))
assembled_record tk w counts t es ks et ew ec =
    rw (
      et,
      ec,
      ap (λ (z : Windows). z.flags) ew ∙ ap (pad 0 40) (sym (map-map flag_byte (λ (y : Entry). y.committed) es)),
      ap (λ (z : Windows). z.opens) ew ∙ ap (pad 0 40) (sym (map-map (λ (x : Window). x.opens) (λ (y : Entry). y.window) es)),
      ap (λ (z : Windows). z.closes) ew ∙ ap (pad 0 40) (sym (map-map (λ (x : Window). x.closes) (λ (y : Entry). y.window) es)),
    )

-- The parts of the record at the start: its ticket,
module _ (s : List ℕ) (bytes : Bytes s) (r : ReadTicket) (er : Ok r ≡ ticket_at s 0) where
  pub ticket_read : (t : Ticket)
      × (read_ticket s ≡ got t (drop r.next s))
      × (r.ticket ≡ stored t)
      × (r.next ≡ size t)
      × (r.next ≤ length s)
      × (r.ticket.events ≡ length t.owners)
      × (r.ticket.events ≤ 40)
  ticket_read =
      let (t, u, q, same) = was_ok (read_of 0) (read_ticket s) er in
      let b = ticket_back s t u bytes q in
      let n : r.next ≡ size t = ap (λ (x : ReadTicket). x.next) same ∙ zero-add _ in
      let events : r.ticket.events ≡ length t.owners = ap (λ (x : ReadTicket). x.ticket.events) same in (
        t,
        q ∙ ap (got t) (sym (ap (drop r.next) b.0 ∙ drop_at (write_ticket t) u r.next (length_ticket t ∙ sym n))),
        ap (λ (x : ReadTicket). x.ticket) same,
        n,
        omega (arith, n, ap length b.0, length-append (write_ticket t) u, length_ticket t),
        events,
        omega (arith, events, b.2.events_limit),
      )

  -- The windows are read for that ticket.
  pub windows_told : window_section s r.next r.ticket.events r.ticket.horizon ≡ window_section s r.next (length ticket_read.0.owners) ticket_read.0.horizon
  windows_told = ap (λ (y : struct.Ticket). window_section s r.next y.events y.horizon) ticket_read.2

  -- the windows,
  module _ (w : Windows) (ew : Ok w ≡ window_section s r.next r.ticket.events r.ticket.horizon) where
    pub windows_read : let t = ticket_read.0 in
        (es : List Entry)
        × (read_windows (length t.owners) t.horizon (drop r.next s) ≡ got es (drop (r.next + 2 + 9 * r.ticket.events) s))
        × (w ≡ windows_of es)
        × (r.next + 2 + 9 * r.ticket.events ≤ length s)
        × (length es ≡ length t.owners)
    windows_read =
        let (t, _, _, _, inside, events, _) = ticket_read in
        let (es, g, same, room, long) = windows_got s r.next (length t.owners) t.horizon w inside (ew ∙ windows_told) in
        let place : r.next + 2 + 9 * length t.owners ≡ r.next + 2 + 9 * r.ticket.events = omega arith in
        (es, g ∙ ap (λ k. got es (drop k s)) place, same, omega arith, long)

    -- and the counts, which are read for the flags of these windows.
    module _ (xs : List ℕ)
        (ex : xs ≡ flag_counts (firsts r.ticket.events (λ i. get_or r.ticket.owners i 0)) (firsts r.ticket.events (λ i. eqb (get_or w.flags i 0) 1))) where
      pub counts_told : let place = r.next + 2 + 9 * r.ticket.events in
          count_section s place xs ≡ count_section s place (flag_counts ticket_read.0.owners (flags_in windows_read.0))
      counts_told =
          let t = ticket_read in
          let es = windows_read in
          ap (count_section s (r.next + 2 + 9 * r.ticket.events)) (ex ∙ flags_told r.ticket w t.0 es.0 t.2 es.2 es.4)

      module _ (counts : List ℕ) (ec : Ok counts ≡ count_section s (r.next + 2 + 9 * r.ticket.events) xs) where
        pub record_read : (x : State)
            × (u : List ℕ)
            × (read_state s ≡ got x u)
            × ◌≡◌ {A = Record} (record { ticket = r.ticket; flags = w.flags; opens = w.opens; closes = w.closes; counts = counts }) (stored_state x)
            × (state_size x ≡ r.next + 14 + 9 * r.ticket.events)
        record_read =
            let t = ticket_read in
            let es = windows_read in
            let p = read_counts (flag_counts t.0.owners (flags_in es.0)) (drop (r.next + 2 + 9 * r.ticket.events) s) in
            let (ks, u, q, same) = was_ok (pad 0 5) p (ec ∙ counts_told) in (
              record { ticket = t.0; windows = windows_in es.0; flags = flags_in es.0; counts = ks },
              u,
              whole_state s t.0 _ t.1 es.0 _ es.1 ks u q,
              assembled_record r.ticket w counts t.0 es.0 ks t.2 es.2 same,
              omega (arith, t.3, t.5, es.4, length-map es.0 (λ (y : Entry). y.window)),
            )
