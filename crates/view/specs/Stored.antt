-- What is seen of a record, by the numbers in its arrays, and the stores of its bytes.
use Rattle.std.specs.Prelude.{ℕ, suc, ◌+◌, ◌*◌, ◌/◌, ◌%◌, ◌≤◌, ◌<◌, ◌≡◌, refl, Bool, false, cond, List, [], ◌∷◌, ◌++◌, eqb, length, set}
use Rattle.std.proofs.Common.{sym, ◌∙◌, add-one, arith, length-append}
use Rattle.std.proofs.Math.Path.{ap}
use Rattle.std.proofs.lemmas.List.Edits.{sets}
use Rattle.temporal.specs.Ticket.{origin}
use Rattle.network.specs.Stored.{at}
use Rattle.ticket.proofs.Fields.{flag_kept}
use Rattle.ticket.specs.Writer.{bytes, each, window_bytes, write_window}
use Rattle.ticket.specs.Writing.{owner_in, committed_in, window_in, state_of}
use Rattle.ticket.proofs.WritingLaws.{get_d_firsts}
use Rattle.ticket.proofs.RoundTrip.{length_each}
use Rattle.ticket.specs.declared.Record.{Record}
use Rattle.writing.specs.Stores.{each_append, sets_then}
use Rattle.viewing.specs.View.{may_see, Seen, seen_if, seen_to, write_seen}
use Rattle.viewing.proofs.Laws.{length_seen}

-- an event with its flag and its window
abbrev pub seen_of : (event flag opens closes : ℕ) → Seen
seen_of event flag opens closes = record { event = event; entry = record { committed = eqb flag 1; window = record { opens = opens; closes = closes } } }

-- the same, if it may be seen
abbrev pub shown : Bool → Seen → List Seen
shown b x = cond b (x ∷ []) []

-- an event's bytes, as the code stores them
pub seen_bytes : (event flag opens closes : ℕ) → flag ≤ 1 → event ∷ window_bytes flag opens closes ≡ write_seen (seen_of event flag opens closes)
unfolding write_seen write_window
seen_bytes event flag opens closes h = ap (λ f. event ∷ window_bytes f opens closes) (sym (flag_kept flag h))

-- ---- one event more

-- the event at place i of the arrays, counted from 0; b says whether the caller may see it
module _ (r : Record) (caller i : ℕ) (l : i < r.ticket.events) {b : Bool} (q : b ≡ may_see caller (at r.ticket.owners i)) where
  abbrev shown_in : List Seen
  shown_in = shown b (seen_of (i + 1) (at r.flags i) (at r.opens i) (at r.closes i))

  seen_in : seen_if caller (state_of r) (suc i) ≡ shown_in
  seen_in =
      rw (
        add-one,
        get_d_firsts r.ticket.events (owner_in r.ticket) 5 i l,
        get_d_firsts r.ticket.events (committed_in r) false i l,
        get_d_firsts r.ticket.events (window_in r) origin i l,
        ← q,
      )
      refl

  seen_more : seen_to (i + 1) caller (state_of r) ≡ seen_to i caller (state_of r) ++ shown_in
  unfolding seen_to
  seen_more = ap (λ p. seen_to p caller (state_of r)) (add-one i) ∙ ap (λ xs. seen_to i caller (state_of r) ++ xs) seen_in

  -- k events are seen before it,
  module _ {k : ℕ} (e : k ≡ length (seen_to i caller (state_of r))) where
    pub count_more : k + length shown_in ≡ length (seen_to (i + 1) caller (state_of r))
    count_more = omega (arith, e, ap length seen_more, length-append (seen_to i caller (state_of r)) shown_in)

    -- and its bytes come after theirs
    pub bytes_more : (out₀ : List ℕ) {out : List ℕ} → out ≡ sets out₀ 2 (each write_seen (seen_to i caller (state_of r)))
        → sets out (2 + 10 * k) (each write_seen shown_in) ≡ sets out₀ 2 (each write_seen (seen_to (i + 1) caller (state_of r)))
    bytes_more out₀ h =
        let xs = seen_to i caller (state_of r) in
        ap (λ o. sets o (2 + 10 * k) (each write_seen shown_in)) h
        ∙ sets_then (each write_seen xs) (each write_seen shown_in) out₀ 2 (2 + 10 * k) (omega (arith, e, length_each write_seen 10 length_seen xs))
        ∙ ap (sets out₀ 2) (sym (each_append write_seen xs shown_in) ∙ ap (each write_seen) (sym seen_more))

-- ---- the count, stored last

sets_past : (x : ℕ) (l bs : List ℕ) (i : ℕ) → sets (x ∷ l) (suc i) bs ≡ x ∷ sets l i bs
sets_past x l [] i = refl
sets_past x l (b ∷ bs) i = sets_past x (set l i b) bs (suc i)

pub count_last : (l bs : List ℕ) (k : ℕ) → 2 ≤ length l → sets (sets l 2 bs) 0 (bytes 2 k) ≡ sets l 0 (bytes 2 k ++ bs)
unfolding bytes
count_last [] bs k h = absurd (omega arith)
count_last (x ∷ []) bs k h = absurd (omega arith)
count_last (x ∷ y ∷ l) bs k h =
    ap (λ o. sets o 0 (bytes 2 k)) (two x y)
    ∙ sym (two (k % 256) (k / 256 % 256))
  where
    two : (a b : ℕ) → sets (a ∷ b ∷ l) 2 bs ≡ a ∷ b ∷ sets l 0 bs
    two a b = sets_past a (b ∷ l) bs 1 ∙ ap (λ m. a ∷ m) (sets_past b l bs 0)
