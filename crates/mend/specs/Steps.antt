-- What the code has answered and written at each of its returns. Rests on `mending`'s Mending and Mended, and on `ticket` for what reading answers.
use Rattle.std.specs.Prelude.{ℕ, ◌+◌, ◌*◌, ◌≤◌, ◌≡◌, List, length, Ok, Err}
use Rattle.std.proofs.Common.{sym, ap, subst, ◌∙◌, arith}
use Rattle.std.proofs.lemmas.List.Edits.{sets}
use Rattle.temporal.specs.Ticket as temporal
use Rattle.temporal.specs.Run.{Valid}
use Rattle.network.specs.Stored.{at}
use Rattle.ticket.specs.Writer.{bytes, each, write_ticket}
use Rattle.ticket.specs.Writing.{firsts, content}
use Rattle.ticket.specs.Stored.{whole_ticket}
use Rattle.ticket.proofs.RoundTrip.{length_bytes, length_each, length_ticket}
use Rattle.ticket.proofs.Sizes.{ticket_bytes}
use Rattle.ticket.proofs.WritingLaws.{length_firsts}
use Rattle.ticket.specs.Content.{Limits}
use Rattle.ticket.proofs.Content.{in_events, in_rules, limits, read_refused, read_got, read_content}
use Rattle.ticket.specs.Refusal.{number_of}
use Rattle.ticket.proofs.Refusals.{refusal_number}
use Rattle.ticket.specs.declared.Ticket.{Ticket}
use Rattle.ticket.specs.declared.Refusal.{Refusal}
use Rattle.writing.specs.Stores.{sets_over, sets_then, sets_each}
use Rattle.mending.specs.Selection.{mended, dropped}
use Rattle.mending.proofs.Laws.{selected_count, mended_valid}
use Rattle.mending.specs.Mending.{write_numbers, Outcome, refusing, accepting, after_reading, mending}
use Rattle.mending.proofs.Mending.{mending_read}
use Rattle.mending.proofs.Mended.{length_numbers, numbers_fit}
use Rattle.select.specs.declared.Mended.{Mended}
use Rattle.mend.specs.Returned.{Answer, returned}

-- a is what the outcome returns, and `out` and `list` its outputs
abbrev pub Meets : Outcome → Answer → (out list : List ℕ) → Type 0
Meets o a out list = (a ≡ returned o) × ((out ≡ o.out) × (list ≡ o.list))

pub meets_refused : {o : Outcome} {r : ℕ} {a : Answer} {out list : List ℕ} → o ≡ refusing r out list → a ≡ record { number = r; length = 0; listed = 0 }
    → Meets o a out list
meets_refused e q = (q ∙ ap returned (sym e), (ap (λ (x : Outcome). x.out) (sym e), ap (λ (x : Outcome). x.list) (sym e)))

-- ---- the list

-- the count, and the numbers after it
pub numbers_stored : (l : List ℕ) (n : ℕ) (numbers : List ℕ) → length numbers ≡ n
    → sets (sets l 0 (bytes 2 n)) 2 (each (bytes 2) numbers) ≡ sets l 0 (write_numbers numbers)
unfolding write_numbers
numbers_stored l n numbers e = rw e (sets_then (bytes 2 n) (each (bytes 2) numbers) l 0 2 (omega (arith, length_bytes 2 n)))

-- one number more
pub numbers_more : (l : List ℕ) (i : ℕ) (f : ℕ → ℕ)
    → sets l 2 (each (bytes 2) (firsts (i + 1) f)) ≡ sets (sets l 2 (each (bytes 2) (firsts i f))) (2 + 2 * i) (bytes 2 (f i))
numbers_more l i f = sets_each (bytes 2) l 2 i f (2 + 2 * i) (omega (arith, length_each (bytes 2) 2 (λ x. length_bytes 2 x) (firsts i f), length_firsts i f))

-- ---- a ticket that was read

module _ (k : temporal.Ticket) (v : Valid k) (m : Mended) (e : content m.ticket ≡ mended k) (f : firsts m.dropped (at m.numbers) ≡ dropped k) where
  pub mended_limits : Limits m.ticket
  mended_limits = limits m.ticket (subst Valid (sym e) (mended_valid k v))

  dropped_is : m.dropped ≡ length (dropped k)
  dropped_is = sym (length_firsts m.dropped (at m.numbers)) ∙ ap length f

  pub dropped_most : m.dropped ≤ 256
  dropped_most = omega (arith, dropped_is, selected_count k, v.rules_limit)

  pub mended_written : (out list : List ℕ) {out' list' : List ℕ} → 1584 ≤ length out → 514 ≤ length list
      → out' ≡ sets out 0 (write_ticket (content m.ticket)) → list' ≡ sets list 0 (write_numbers (firsts m.dropped (at m.numbers)))
      → Meets (accepting k out list) (record { number = 0; length = 8 + m.ticket.events + 6 * m.ticket.rules; listed = 2 + 2 * m.dropped }) out' list'
  mended_written out list lo ll eo el =
      let a : 8 + m.ticket.events + 6 * m.ticket.rules ≡ length (write_ticket (mended k)) =
      omega (arith, in_events m.ticket, in_rules m.ticket, length_ticket (content m.ticket), ap (λ (x : temporal.Ticket). length (write_ticket x)) e) in
      let b : 2 + 2 * m.dropped ≡ length (write_numbers (dropped k)) = omega (arith, dropped_is, length_numbers (dropped k)) in (
        (λ i. record { number = 0; length = a i; listed = b i }),
        (
          eo ∙ ap (λ x. sets out 0 (write_ticket x)) e ∙ sets_over (write_ticket (mended k)) out (omega (arith, ticket_bytes (mended k) (mended_valid k v))),
          el ∙ ap (λ x. sets list 0 (write_numbers x)) f ∙ sets_over (write_numbers (dropped k)) list (omega (arith, numbers_fit k v)),
        ),
      )

-- ---- reading

module _ (ticket out list : List ℕ) (l : 1584 ≤ length out) (m : 514 ≤ length list) where
  pub ticket_misread : {a : Answer} {e : Refusal} → Err e ≡ whole_ticket ticket → a ≡ record { number = number_of e; length = 0; listed = 0 } → Meets (mending ticket out list) a out list
  ticket_misread e q =
      let c = read_refused ticket e in
      meets_refused (mending_read ticket out list l m ∙ ap (after_reading out list) c.1)
      (q ∙ ap (λ (r : ℕ). record { number = r; length = 0; listed = 0 }) (ap number_of c.2 ∙ refusal_number c.0))

  pub ticket_mended : {t : Ticket} → Ok t ≡ whole_ticket ticket → {a : Answer} {out' list' : List ℕ} → Meets (accepting (content t) out list) a out' list'
      → Meets (mending ticket out list) a out' list'
  ticket_mended e {a} {out'} {list'} h =
      subst (λ o. Meets o a out' list')
      (ap (λ k. accepting k out list) (read_content ticket e) ∙ ap (after_reading out list) (sym (read_got ticket e).2) ∙ sym (mending_read ticket out list l m)) h
