-- The rules that a ticket's struct holds, by their numbers. Rests on `ticket`'s `content`, and on Walks.
use Rattle.std.specs.Prelude.{◌≡◌, ℕ, suc, ◌+◌, ◌*◌, ◌-◌, ◌/◌, ◌%◌, ◌≤◌, ◌<◌, length}
use Rattle.std.proofs.Common.{sym, ap, ◌∙◌, arith}
use Rattle.ticket.specs.Writing.{rule_in, content}
use Rattle.ticket.proofs.WritingLaws.{get_d_firsts}
use Rattle.ticket.proofs.Content.{in_events, in_rules}
use Rattle.ticket.specs.declared.Ticket.{Ticket}
use Rattle.paths.specs.Rules.{back, out, size, rule_at}
use Rattle.paths.proofs.Walks.{rule_written, rule_back, rule_out}

module _ (t : Ticket) where
  pub in_size : size (content t) ≡ t.rules + 2 * t.events
  in_size = omega (arith, in_events t, in_rules t)

  -- rule x is a written one,
  pub written_in : (x : ℕ) → 1 ≤ x → x ≤ t.rules → rule_at (content t) x ≡ rule_in t (x - 1)
  written_in x l h =
      let e : x ≡ suc (x - 1) = omega arith in
      ap (rule_at (content t)) e ∙ rule_written (content t) (x - 1) (omega (arith, in_rules t)) ∙ get_d_firsts t.rules (rule_in t) (back 0) (x - 1) (omega arith)

  module _ (x : ℕ) (l : t.rules < x) (h : x ≤ t.rules + 2 * t.events) where
    -- or one to 0,
    pub back_in : (x - t.rules) % 2 ≡ 1 → rule_at (content t) x ≡ back ((x - t.rules + 1) / 2)
    back_in o =
        let i = (x - t.rules + 1) / 2 in
        let e : length (content t).rules + 2 * i - 1 ≡ x = omega (arith, in_rules t) in
        ap (rule_at (content t)) (sym e) ∙ rule_back (content t) i (omega arith) (omega (arith, in_events t))

    -- or one from 0
    pub out_in : ((x - t.rules) % 2 ≡ 1 → ⊥) → rule_at (content t) x ≡ out t.horizon ((x - t.rules) / 2)
    out_in o =
        let i = (x - t.rules) / 2 in
        let e : length (content t).rules + 2 * i ≡ x = omega (arith, in_rules t) in
        ap (rule_at (content t)) (sym e) ∙ rule_out (content t) i (omega arith) (omega (arith, in_events t))
