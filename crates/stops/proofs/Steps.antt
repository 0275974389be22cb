-- What the code has answered and written at each of its returns. Rests on After, on `closure`'s Answers for the entries, and on `ticket` for what reading
-- answers.
use Rattle.std.specs.Prelude.{ℕ, ◌+◌, ◌*◌, ◌≤◌, min, ◌≡◌, Bool, List, ◌++◌, Ok, Err, ◌≢◌, T, ℤ, length, drop}
use Rattle.std.proofs.Common.{sym, ap, subst, ◌∙◌, arith}
use Rattle.temporal.specs.Lists.{All}
use Rattle.temporal.proofs.Lists.{T-true}
use Rattle.temporal.specs.Ticket.{events}
use Rattle.temporal.specs.Distance.{consistent}
use Rattle.temporal.specs.Run.{ValidRule, Valid}
use Rattle.temporal.specs.Table.{rows}
use Rattle.ticket.specs.Writing.{rule_in, content}
use Rattle.ticket.proofs.WritingLaws.{firsts_tab}
use Rattle.ticket.specs.Stored.{whole_ticket}
use Rattle.ticket.proofs.Content.{in_events, limits, read_refused, read_got, read_content}
use Rattle.ticket.specs.declared.Ticket.{Ticket}
use Rattle.ticket.specs.declared.Refusal.{Refusal}
use Rattle.ticket.specs.Refusal.{number_of}
use Rattle.ticket.proofs.Refusals.{refusal_number}
use Rattle.closure.specs.Cases.{by_bool}
use Rattle.closure.specs.Matrix.{Matrix, none, shown, Everywhere}
use Rattle.closure.specs.Start.{first_entries}
use Rattle.closure.specs.Stops.{after, Floors, AboveFloors}
use Rattle.closure.specs.Steps.{Closed, Written}
use Rattle.closure.specs.Answers.{start_floors, start_top, closed_consistent, closed_none, start_kept, after_first, after_small, written_filled}
use Rattle.table.specs.Lent.{rules_of}
use Rattle.table.proofs.Rules.{valid_rules}
use Rattle.stops.specs.After.{working_at, worked, after_reading, table_after}
use Rattle.stops.proofs.After.{after_read, worked_some}

-- ---- a ticket that was read, as arrays

module _ (t : Ticket) (v : Valid (content t)) where
  -- the arrays hold its rules
  pub arrays_hold : rules_of t.rules t.from t.to t.bound ≡ (content t).rules
  arrays_hold = sym (firsts_tab t.rules (rule_in t))

  pub arrays_valid : All (ValidRule 40) (rules_of t.rules t.from t.to t.bound)
  arrays_valid =
      valid_rules t.events (rules_of t.rules t.from t.to t.bound) (limits t v).few
      (subst (λ n. All (ValidRule n) (rules_of t.rules t.from t.to t.bound)) (in_events t) (subst (All (ValidRule (events (content t)))) (sym arrays_hold) v.rules_valid))

  -- the entries D before the first stop
  module _ (D : Matrix) (first : Everywhere 40 (λ i j. D i j ≡ first_entries (content t) i j)) where
    same : Everywhere t.events (λ i j. D i j ≡ first_entries (content t) i j)
    same i j li lj = first i j (omega (arith, (limits t v).few)) (omega (arith, (limits t v).few))

    pub first_floors : Floors t.events D
    first_floors = start_floors (content t) v t.events (in_events t) D same

    pub first_top : Everywhere t.events (λ i j. D i j ≤ none)
    first_top = start_top (content t) v t.events (in_events t) D same

    -- all stops tell whether there is a schedule
    pub closed_tells : (R : Matrix) {r : Bool} → Closed t.events D R r → r ≡ consistent (content t)
    closed_tells R {r} c =
        by_bool r
        (λ e. e ∙ sym (closed_consistent (content t) v t.events (in_events t) D same R c e))
        (λ e. e ∙ sym (closed_none (content t) v t.events (in_events t) D same R c e))

    module _ (has : T (consistent (content t))) (s : ℕ) where
      pub stops_kept : AboveFloors t.events D (min s (t.events + 1))
      stops_kept = start_kept (content t) v t.events (in_events t) D same has (min s (t.events + 1)) (omega arith)

      -- the entries R after so many stops
      module _ (R : Matrix) (next : Everywhere t.events (λ i j. R i j ≡ after t.events D (min s (t.events + 1)) i j)) where
        pub stops_small : Everywhere t.events (λ i j. R i j ≢ none → R i j ≤ 43000000)
        stops_small = after_small (content t) v t.events (in_events t) D same has (min s (t.events + 1)) (omega arith) R next

        shows : Everywhere t.events (λ i j. working_at (content t) s i j ≡ shown (R i j))
        unfolding working_at
        shows i j li lj =
            rw (in_events t) (ap shown (sym (after_first (content t) v t.events (in_events t) D same has (min s (t.events + 1)) (omega arith) R next i j li lj)))

        pub stops_written : (out out' : List ℤ) → 1681 ≤ length out → Written t.events R out out' → (0, out') ≡ worked (content t) s out
        stops_written out out' room w =
            ap (λ (xs : List ℤ). (0, xs)) (written_filled t.events (working_at (content t) s) R out out' (limits t v).few room shows w)
            ∙ ap (λ (n : ℕ). (0, rows (n + 1) (n + 1) (working_at (content t) s) ++ drop ((n + 1) * (n + 1)) out)) (sym (in_events t))
            ∙ sym (worked_some (content t) s out (T-true (consistent (content t)) has))

-- ---- reading

module _ (ticket : List ℕ) (s : ℕ) (out : List ℤ) (room : 1681 ≤ length out) where
  pub ticket_misread : {r : Refusal} → Err r ≡ whole_ticket ticket → (number_of r, out) ≡ table_after ticket s out
  ticket_misread e =
      let c = read_refused ticket e in
      ap (λ (m : ℕ). (m, out)) (ap number_of c.2 ∙ refusal_number c.0) ∙ sym (after_read ticket s out room ∙ ap (after_reading s out) c.1)

  pub ticket_worked : {t : Ticket} → Ok t ≡ whole_ticket ticket → worked (content t) s out ≡ table_after ticket s out
  ticket_worked e =
      ap (λ k. worked k s out) (read_content ticket e) ∙ ap (after_reading s out) (sym (read_got ticket e).2) ∙ sym (after_read ticket s out room)
