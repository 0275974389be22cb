-- The laws of what specs/Examples defines.
use Rattle.std.specs.Prelude.{◌≡◌, refl, Bool, true, false, List, [], ◌∷◌, ℕ, ◌≤◌, T, pos, length}
use Rattle.std.proofs.Common.{sym, ap, ◌∙◌, arith}
use Rattle.temporal.specs.Lists.{All}
use Rattle.temporal.proofs.Lists.{T-true}
use Rattle.temporal.specs.Ticket.{Ticket, events}
use Rattle.temporal.specs.Distance.{consistent}
use Rattle.temporal.specs.Examples.{minus, ticket1, ticket6, ticket7}
use Rattle.temporal.proofs.Examples.{consistent1}
use Rattle.ticket.specs.Parser.{little, many, got, wholly}
use Rattle.ticket.specs.Format.{read_ticket, read_owner, read_rule}
use Rattle.ticket.specs.Writer.{write_ticket, write_rule, bytes, each}
use Rattle.ticket.specs.Writing.{over}
use Rattle.text.specs.Text.{decimal, decimal_short, decimal_long, line}
use Rattle.names.specs.Names.{letters, named, entries, well_formed, name_at, name_in}
use Rattle.names.specs.Bytes.{entry_bytes, list_bytes}
use Rattle.paths.specs.Rules.{unwritten, all_rules, rule_at}
use Rattle.rings.specs.Ring.{ring}
use Rattle.rings.proofs.Printed.{ring_none}
use Rattle.rings.proofs.Examples as rings
use Rattle.reasons.specs.Text.{signed_decimal, at_line, point_line, rule_line, ring_text}
use Rattle.reasons.specs.Reasoning.{refusing, printing, after_reading, reasoning}
use Rattle.reasons.proofs.Reasoning.{reasoning_read, explaining_possible, explaining_ring}
use Rattle.reasons.specs.Examples.{Holds, examples, last, later, roster, sooner, text6, text7}

-- ---- a row, from what is read, the ring, and its text

module _ (k : Ticket) (names : List (List ℕ)) (read : wholly read_ticket (write_ticket k) ≡ got k [])
    (l : well_formed (list_bytes names) (events k) ≡ true) (r : well_formed roster 5 ≡ true) (out : List ℕ) (room : 2200 ≤ length out) where
  row_printed : {e : ℕ} {es : List ℕ} (text : List ℕ) → ring k ≡ e ∷ es → ring_text k (list_bytes names) roster (e ∷ es) ≡ text
      → reasoning (write_ticket k) (list_bytes names) roster out ≡ printing text out
  row_printed {e} {es} text q t =
      reasoning_read (write_ticket k) (list_bytes names) roster out room ∙ ap (after_reading (list_bytes names) roster out) read
      ∙ explaining_ring k (list_bytes names) roster out l r (none (consistent k) refl)
      ∙ ap (λ (rules : List ℕ). printing (ring_text k (list_bytes names) roster rules) out) q
      ∙ ap (λ (x : List ℕ). printing x out) t
    where
      none : (b : Bool) → consistent k ≡ b → consistent k ≡ false
      none true c = absurd (omega (arith, ap length (sym q ∙ ring_none k (rw c tt))))
      none false c = c

  row_possible : T (consistent k) → reasoning (write_ticket k) (list_bytes names) roster out ≡ refusing 17 out
  row_possible c =
      reasoning_read (write_ticket k) (list_bytes names) roster out room ∙ ap (after_reading (list_bytes names) roster out) read
      ∙ explaining_possible k (list_bytes names) roster out l r (T-true (consistent k) c)

-- ---- every row of the table holds

ten : decimal 10 ≡ 49 ∷ 48 ∷ []
ten = decimal_long 10 (omega arith) ∙ rw (decimal_short 1 (omega arith))

eleven : decimal 11 ≡ 49 ∷ 49 ∷ []
eleven = decimal_long 11 (omega arith) ∙ rw (decimal_short 1 (omega arith))

says6 : ring_text (ticket6 (pos 0)) (list_bytes (later ∷ sooner ∷ [])) roster (1 ∷ 2 ∷ []) ≡ text6
unfolding ring_text point_line at_line rule_line signed_decimal line name_at name_in list_bytes entry_bytes rule_at all_rules unwritten
says6 = rw (decimal_short 1 (omega arith), decimal_short 2 (omega arith), decimal_short 0 (omega arith))

says7 : ring_text (ticket7 (minus 11)) (list_bytes (last ∷ [])) roster (1 ∷ 3 ∷ []) ≡ text7
unfolding ring_text point_line at_line rule_line signed_decimal line name_at name_in list_bytes entry_bytes rule_at all_rules unwritten
says7 = rw (decimal_short 1 (omega arith), decimal_short 3 (omega arith), ten, eleven)

pub examples_hold : All Holds examples
unfolding read_ticket read_owner read_rule little many write_ticket write_rule bytes each well_formed entries named letters list_bytes entry_bytes over
examples_hold = (
  λ out room. row_printed (ticket6 (pos 0)) (later ∷ sooner ∷ []) refl refl refl out room text6 (rings.examples_hold).0 says6,
  (
    λ out room. row_printed (ticket7 (minus 11)) (last ∷ []) refl refl refl out room text7 (rings.examples_hold).1.0 says7,
    (λ out room. row_possible ticket1 (later ∷ sooner ∷ []) refl refl refl out room consistent1, tt),
  ),
)
