-- What the code has answered and written at each of its returns. Rests on `reasons`' Reasoning, on `ring` for what the search answers, and on `ticket` for
-- what reading answers.
use Rattle.std.specs.Prelude.{ℕ, ◌-◌, ◌≤◌, ◌≡◌, true, List, Some, None, Ok, Err, T, take, replicate}
use Rattle.std.proofs.Common.{sym, subst, ◌∙◌, arith}
use Rattle.std.proofs.Math.Path.{ap}
use Rattle.std.proofs.Math.Dec.{not_T}
use Rattle.std.proofs.Math.ListN.{length, length-append, length-replicate}
use Rattle.temporal.specs.Lists.{All}
use Rattle.temporal.proofs.Lists.{T-true, T-false}
use Rattle.temporal.specs.Ticket as temporal
use Rattle.temporal.specs.Ticket.{events}
use Rattle.temporal.specs.Distance.{consistent}
use Rattle.temporal.specs.Run.{Valid}
use Rattle.ticket.specs.Writing.{content}
use Rattle.ticket.specs.Stored.{pad, whole_ticket}
use Rattle.ticket.proofs.Content.{read_refused, read_got, read_content}
use Rattle.ticket.specs.Refusal.{number_of}
use Rattle.ticket.proofs.Refusals.{refusal_number}
use Rattle.ticket.specs.declared.Ticket.{Ticket}
use Rattle.ticket.specs.declared.Refusal.{Refusal}
use Rattle.text.specs.Stores.{Puts}
use Rattle.writing.specs.Stores.{sets_over}
use Rattle.names.specs.Names.{well_formed}
use Rattle.paths.specs.Rules.{Number}
use Rattle.paths.proofs.Walks.{valid_points}
use Rattle.rings.specs.Ring.{ring}
use Rattle.rings.proofs.Printed.{ring_printed}
use Rattle.ring.specs.Answer.{printed, printed_is, printed_rules, printed_most, printed_none}
use Rattle.ring.specs.declared.Found.{Found}
use Rattle.reasons.specs.Text.{ring_text}
use Rattle.reasons.proofs.Size.{text_size}
use Rattle.reasons.specs.Reasoning.{Outcome, refusing, printing, explaining, after_reading, reasoning}
use Rattle.reasons.proofs.Reasoning.{reasoning_read, explaining_possible, explaining_ring}
use Rattle.reason.specs.Returned.{Answer, returned}

-- a is what the outcome returns, and `out` its output
abbrev pub Meets : Outcome → Answer → List ℕ → Type 0
Meets o a out = (a ≡ returned o) × (out ≡ o.out)

pub meets_refused : {o : Outcome} {r : ℕ} {a : Answer} {out : List ℕ} → o ≡ refusing r out → a ≡ record { number = r; length = 0 } → Meets o a out
meets_refused e q = (q ∙ ap returned (sym e), ap (λ (x : Outcome). x.out) (sym e))

-- ---- a ticket that was read

module _ (k : temporal.Ticket) (v : Valid k) (labels roster : List ℕ) (l : well_formed labels (events k) ≡ true) (r : well_formed roster 5 ≡ true) where
  -- no ring was found: a schedule exists
  pub found_none : (out : List ℕ) → None ≡ printed (ring k) → explaining k labels roster out ≡ refusing 17 out
  found_none out z = explaining_possible k labels roster out l r (T-true (consistent k) ((printed_none k v).0 z))

  module _ {f : Found} (e : Some f ≡ printed (ring k)) where
    pub found_most : f.count ≤ 41
    found_most = printed_most k v e

    pub found_long : length f.rules ≡ 41
    unfolding pad
    found_long =
        ap (λ (x : Found). length x.rules) (printed_is (ring k) e)
        ∙ omega (arith, ring_most, length-append (ring k) (replicate (41 - length (ring k)) 0), length-replicate {A = ℕ} (41 - length (ring k)) 0)
      where
        ring_most : length (ring k) ≤ 41
        ring_most = omega (arith, found_most, ap (λ (x : Found). x.count) (printed_is (ring k) e))

    no_schedule : ¬ T (consistent k)
    no_schedule t = let z : ◌≡◌ {A = ℕ} 0 1 = cc ((printed_none k v).1 t) in omega arith

    pub found_rules : take f.count f.rules ≡ ring k
    found_rules = printed_rules (ring k) e

    pub found_numbers : All (Number k) (take f.count f.rules)
    found_numbers = subst (All (Number k)) (sym found_rules) (ring_printed k (valid_points k v) no_schedule).a_ring.numbers

    -- its text is put into the output
    pub found_fits : length (ring_text k labels roster (take f.count f.rules)) ≤ 2200
    found_fits = text_size k v labels roster l r (take f.count f.rules) found_numbers
        (omega (arith, ap length found_rules, ap (λ (x : Found). x.count) (printed_is (ring k) e), found_most))

    pub found_printed : {out out' : List ℕ} {n : ℕ} → 2200 ≤ length out → Puts (ring_text k labels roster (take f.count f.rules)) out out' 0 n
        → Meets (explaining k labels roster out) (record { number = 0; length = n }) out'
    found_printed {out} {out'} {n} room p =
        let text = ring_text k labels roster (take f.count f.rules) in
        let n_is : n ≡ length text = omega (arith, p.end) in
        let same : explaining k labels roster out ≡ printing text out =
        explaining_ring k labels roster out l r (T-false (consistent k) (not_T (consistent k) no_schedule)) ∙ ap (λ es. printing (ring_text k labels roster es) out) (sym found_rules) in (
          ap (λ (x : ℕ). record { number = 0; length = x }) n_is ∙ ap returned (sym same),
          p.stored ∙ sets_over text out (omega (arith, found_fits)) ∙ ap (λ (x : Outcome). x.out) (sym same),
        )

-- ---- reading

module _ (ticket labels roster out : List ℕ) (room : 2200 ≤ length out) where
  pub ticket_misread : {a : Answer} {e : Refusal} → Err e ≡ whole_ticket ticket → a ≡ record { number = number_of e; length = 0 } → Meets (reasoning ticket labels roster out) a out
  ticket_misread e q =
      let c = read_refused ticket e in
      meets_refused (reasoning_read ticket labels roster out room ∙ ap (after_reading labels roster out) c.1)
      (q ∙ ap (λ (m : ℕ). record { number = m; length = 0 }) (ap number_of c.2 ∙ refusal_number c.0))

  pub ticket_meets : {t : Ticket} → Ok t ≡ whole_ticket ticket → {a : Answer} {out' : List ℕ} → Meets (explaining (content t) labels roster out) a out'
      → Meets (reasoning ticket labels roster out) a out'
  ticket_meets e {a} {out'} m =
      subst (λ o. Meets o a out')
      (ap (λ k. explaining k labels roster out) (read_content ticket e) ∙ ap (after_reading labels roster out) (sym (read_got ticket e).2) ∙ sym (reasoning_read ticket labels roster out room)) m
