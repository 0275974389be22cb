-- What the code has answered and written at each of its returns. Rests on `viewing`'s View, on `causes` for what reading a record answers, and on Stored.
use Rattle.std.specs.Prelude.{ℕ, ◌+◌, ◌*◌, ◌≤◌, ◌≡◌, true, List, length, Ok, Err}
use Rattle.std.proofs.Common.{sym, ap, subst, ◌∙◌, arith}
use Rattle.std.proofs.lemmas.List.Edits.{sets}
use Rattle.temporal.specs.Ticket.{fits}
use Rattle.temporal.specs.Plan.{State}
use Rattle.temporal.specs.Run.{Readable}
use Rattle.ticket.specs.Writer.{bytes, each}
use Rattle.ticket.specs.Writing.{state_of}
use Rattle.ticket.specs.Stored.{whole_record}
use Rattle.ticket.specs.RoundTrip.{Bytes}
use Rattle.ticket.specs.Refusal.{number_of}
use Rattle.ticket.proofs.Refusals.{refusal_number}
use Rattle.ticket.specs.declared.Record.{Record}
use Rattle.ticket.specs.declared.Refusal.{Refusal}
use Rattle.writing.specs.Stores.{sets_over}
use Rattle.causes.specs.Structs.{read_refused, read_got, read_state_lem}
use Rattle.viewing.specs.View.{seen, write_seen, write_view, view, Outcome, refusing, viewed, after_reading, viewing}
use Rattle.viewing.proofs.View.{viewing_read, viewed_fit}
use Rattle.viewing.proofs.Laws.{length_view, view_fits}
use Rattle.view.specs.Returned.{Answer, returned}
use Rattle.view.specs.Stored.{count_last}

-- a is what the outcome returns, and `out` its output
abbrev pub Meets : Outcome → Answer → List ℕ → Type 0
Meets o a out = (a ≡ returned o) × (out ≡ o.out)

pub meets_refused : {o : Outcome} {r : ℕ} {a : Answer} {out : List ℕ} → o ≡ refusing r out → a ≡ record { number = r; length = 0 } → Meets o a out
meets_refused e q = (q ∙ ap returned (sym e), ap (λ (x : Outcome). x.out) (sym e))

-- ---- a record that was read

-- the events are stored, then their count
pub view_written : (caller : ℕ) (s : State) → Readable s → (out : List ℕ) {out' : List ℕ} {k : ℕ} → 402 ≤ length out → fits s.ticket s.windows ≡ true
    → k ≡ length (seen caller s) → out' ≡ sets (sets out 2 (each write_seen (seen caller s))) 0 (bytes 2 k)
    → Meets (viewed caller s out) (record { number = 0; length = 2 + 10 * k }) out'
unfolding write_view
view_written caller s ok out {out'} {k} room f c e =
    let n : 2 + 10 * k ≡ length (view caller s) = omega (arith, length_view caller s, c) in
    subst (λ o. Meets o (record { number = 0; length = 2 + 10 * k }) out') (sym (viewed_fit caller s out f)) (
      (λ i. record { number = 0; length = n i }),
      e
          ∙ ap (λ m. sets (sets out 2 (each write_seen (seen caller s))) 0 (bytes 2 m)) c
          ∙ count_last out (each write_seen (seen caller s)) (length (seen caller s)) (omega arith)
          ∙ sets_over (view caller s) out (omega (arith, view_fits caller s ok)),
    )

-- ---- reading

module _ (bytes : List ℕ) (caller : ℕ) (out : List ℕ) (l : 402 ≤ length out) (m : caller ≤ 4) where
  pub record_misread : {a : Answer} {e : Refusal} → Err e ≡ whole_record bytes → a ≡ record { number = number_of e; length = 0 } → Meets (viewing bytes caller out) a out
  record_misread e q =
      let c = read_refused bytes e in
      meets_refused (viewing_read bytes caller out l m ∙ ap (after_reading caller out) c.1)
      (q ∙ ap (λ (r : ℕ). record { number = r; length = 0 }) (ap number_of c.2 ∙ refusal_number c.0))

  pub record_viewed : {r : Record} → Ok r ≡ whole_record bytes → Bytes bytes → {a : Answer} {out' : List ℕ} → Meets (viewed caller (state_of r) out) a out'
      → Meets (viewing bytes caller out) a out'
  record_viewed e b {a} {out'} h =
      subst (λ o. Meets o a out')
      (ap (λ s. viewed caller s out) (read_state_lem bytes e b) ∙ ap (after_reading caller out) (sym (read_got bytes e).2) ∙ sym (viewing_read bytes caller out l m)) h
