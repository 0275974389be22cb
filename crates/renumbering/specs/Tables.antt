-- The table's call for the renumbered rules (02, change 12): the same number (`table_number`), and the same distances between the same points, under their new
-- numbers (`table_accepted`); a refusal leaves the output (`table_refused`).
use Rattle.std.specs.Prelude.{◌≡◌, ◌||◌, ℕ, suc, ◌+◌, ◌*◌, T, ltb, ℤ, pos, negsuc, length, drop}
use Rattle.std.proofs.Math.Path.{refl, ap₂}
use Rattle.std.proofs.Common.{sym, ap, ◌∙◌, arith}
use Rattle.std.proofs.Math.Bool.{cond}
use mathlib.Core.List.{List, [], ◌∷◌, ◌++◌, map}
use Rattle.std.specs.Int.Signed.{lt_z}
use Rattle.std.proofs.lemmas.List.{length-map}
use Rattle.temporal.specs.Ticket.{Rule}
use Rattle.temporal.specs.Distance.{consistent, distance}
use Rattle.temporal.specs.Table.{ticket_of, or_else, rule_cause, rules_cause, cause, rows, filled, table_of}
use Rattle.temporal.proofs.TableCauses.{accepted_consistent, ticket_events, refuses, accepts}
use Rattle.renumbering.specs.Order.{Order, equal_same, past_same, reorder_replicate}
use Rattle.renumbering.specs.Renumber.{renumber_rule, renumber}
use Rattle.renumbering.specs.Schedules.{consistent_in, distance_old}

module _ {n : ℕ} (o : Order n) where
  rule_cause_same : (r : Rule) → rule_cause n (renumber_rule o r) ≡ rule_cause n r
  unfolding rule_cause
  rule_cause_same r = λ i.
      cond (past_same o r.from i || (past_same o r.to i || equal_same o r.from r.to i)) 6
      (cond (lt_z r.bound (negsuc 999999) || lt_z (pos 1000000) r.bound) 7
      0)

  rules_cause_same : (rs : List Rule) → rules_cause n (map (renumber_rule o) rs) ≡ rules_cause n rs
  unfolding rules_cause
  rules_cause_same [] = refl
  rules_cause_same (r ∷ rs) = ap₂ or_else (rule_cause_same r) (rules_cause_same rs)

  -- the table's call names no owners
  table_ticket : (h : ℕ) (rules : List Rule) → renumber o (ticket_of h n rules) ≡ ticket_of h n (map (renumber_rule o) rules)
  table_ticket h rules = λ i. record { horizon = h; owners = reorder_replicate o 0 n i; rules = map (renumber_rule o) rules }

  table_consistent : (h : ℕ) (rules : List Rule) → consistent (ticket_of h n (map (renumber_rule o) rules)) ≡ consistent (ticket_of h n rules)
  table_consistent h rules = ap consistent (sym (table_ticket h rules)) ∙ consistent_in o (ticket_of h n rules) (ticket_events h n rules)

  -- the number answered is the same
  pub table_number : (h : ℕ) (rules : List Rule) (room : ℕ) → cause h n (map (renumber_rule o) rules) room ≡ cause h n rules room
  unfolding cause
  table_number h rules room = λ i.
      cond (ltb room 1681) 10
      (cond (ltb 1000000 h) 2
      (cond (ltb 40 n) 3
      (cond (ltb 256 (length-map rules (renumber_rule o) i)) 5
      (or_else (rules_cause_same rules i)
      (cond (table_consistent h rules i) 0 9)))))

  -- at the new points i and j stands the distance of the old ones
  pub table_filled : (h : ℕ) (rules : List Rule) (out : List ℤ) → T (consistent (ticket_of h n rules))
      → filled n (ticket_of h n (map (renumber_rule o) rules)) out ≡ rows (n + 1) (n + 1) (λ i j. distance (ticket_of h n rules) (o.old i) (o.old j)) ++ drop ((n + 1) * (n + 1)) out
  table_filled h rules out t = λ x. rows (n + 1) (n + 1) (λ i j. between i j x) ++ drop ((n + 1) * (n + 1)) out
    where
      between : (i j : ℕ) → distance (ticket_of h n (map (renumber_rule o) rules)) i j ≡ distance (ticket_of h n rules) (o.old i) (o.old j)
      between i j = ap (λ k. distance k i j) (sym (table_ticket h rules)) ∙ distance_old o (ticket_of h n rules) (ticket_events h n rules) i j t

  -- so the call is refused as before, the output as it was lent, or writes the same table under the new numbers
  pub table_refused : (h : ℕ) (rules : List Rule) (out : List ℤ) (r : ℕ) → cause h n rules (length out) ≡ suc r → table_of h n (map (renumber_rule o) rules) out ≡ (suc r, out)
  table_refused h rules out r e = sym (refuses h n (map (renumber_rule o) rules) out (suc r) (table_number h rules (length out) ∙ e) (omega arith))

  pub table_accepted : (h : ℕ) (rules : List Rule) (out : List ℤ) → cause h n rules (length out) ≡ 0
      → table_of h n (map (renumber_rule o) rules) out ≡ (0, rows (n + 1) (n + 1) (λ i j. distance (ticket_of h n rules) (o.old i) (o.old j)) ++ drop ((n + 1) * (n + 1)) out)
  table_accepted h rules out e =
      sym (accepts h n (map (renumber_rule o) rules) out (table_number h rules (length out) ∙ e))
      ∙ λ x. (0, table_filled h rules out (accepted_consistent h n rules (length out) e) x)
