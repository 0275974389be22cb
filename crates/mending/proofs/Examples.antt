-- The laws of what specs/Examples defines.
use Rattle.std.specs.Prelude.{ℕ, ◌≤◌, ◌≡◌, refl, true, false, List, [], ◌∷◌, ◌++◌, T, pos, length}
use Rattle.std.proofs.Common.{ap, ◌∙◌}
use Rattle.std.proofs.Math.Dec.{not_T}
use Rattle.temporal.specs.Lists.{All}
use Rattle.temporal.proofs.Lists.{T-true, T-false}
use Rattle.temporal.specs.Bound.{at_most, above, below}
use Rattle.temporal.specs.Ticket.{Rule, Ticket, Schedule, is_schedule}
use Rattle.temporal.proofs.Ends.{test_schedule}
use Rattle.temporal.proofs.Distance.{consistent_has}
use Rattle.temporal.specs.Examples.{rule, minus, ticket1, ticket6, ticket7}
use Rattle.temporal.proofs.Examples.{consistent1, impossible6, impossible7}
use Rattle.ticket.specs.Parser.{got, little, many, wholly}
use Rattle.ticket.specs.Format.{read_ticket, read_owner, read_rule}
use Rattle.ticket.specs.Writer.{bytes, each, write_rule, write_ticket}
use Rattle.mending.specs.Selection.{with_rules, consistent_with, Selection, select, selected}
use Rattle.mending.proofs.Laws.{schedule_mended}
use Rattle.mending.specs.Mending.{write_numbers, writing, after_reading, mending}
use Rattle.mending.proofs.Mending.{mending_read}
use Rattle.mending.specs.Examples.{Holds, bytes1, bytes6, bytes7, examples}

-- ---- what is kept and dropped

none_keeps : (k : Ticket) (kept : List Rule) (r : Rule) → ((ts : List ℕ) → ¬ Schedule (with_rules k (kept ++ r ∷ [])) ts) → consistent_with k kept r ≡ false
none_keeps k kept r none =
    T-false (consistent_with k kept r) (not_T (consistent_with k kept r) (λ t.
    let s = (consistent_has (with_rules k (kept ++ r ∷ []))).0 t in
    none s.0 s.1))

keeps : (k : Ticket) (kept : List Rule) (r : Rule) (ts : List ℕ) → T (is_schedule (with_rules k (kept ++ r ∷ [])) ts) → consistent_with k kept r ≡ true
keeps k kept r ts t =
    T-true (consistent_with k kept r) ((consistent_has (with_rules k (kept ++ r ∷ []))).1 (ts, test_schedule (with_rules k (kept ++ r ∷ [])) ts t))

selected1 : selected ticket1 ≡ record { kept = ticket1.rules; dropped = [] }
selected1 =
    let e = schedule_mended ticket1 ((consistent_has ticket1).0 consistent1) in
    λ i. record { kept = (e.0 i).rules; dropped = e.1 i }

abbrev three6 : Ticket
three6 = with_rules (ticket6 (pos 0)) (rule 1 2 (minus 1) ∷ rule 2 1 (pos 0) ∷ rule 2 1 (pos 1) ∷ [])

-- "1 to 2: -1" can be kept alone
first6 : consistent_with three6 [] (rule 1 2 (minus 1)) ≡ true
unfolding is_schedule at_most above below
first6 = keeps three6 [] (rule 1 2 (minus 1)) (1 ∷ 0 ∷ []) tt

-- "2 to 1: 0" cannot be kept with it
second6 : consistent_with three6 (rule 1 2 (minus 1) ∷ []) (rule 2 1 (pos 0)) ≡ false
second6 = none_keeps three6 (rule 1 2 (minus 1) ∷ []) (rule 2 1 (pos 0)) impossible6

-- "2 to 1: 1" can
third6 : consistent_with three6 (rule 1 2 (minus 1) ∷ []) (rule 2 1 (pos 1)) ≡ true
unfolding is_schedule at_most above below
third6 = keeps three6 (rule 1 2 (minus 1) ∷ []) (rule 2 1 (pos 1)) (1 ∷ 0 ∷ []) tt

selected6 : selected three6 ≡ record { kept = rule 1 2 (minus 1) ∷ rule 2 1 (pos 1) ∷ []; dropped = 2 ∷ [] }
unfolding selected select
selected6 = rw (first6, second6, third6) refl

-- "1 to 0: -11" cannot be kept: the horizon is 10
only7 : consistent_with (ticket7 (minus 11)) [] (rule 1 0 (minus 11)) ≡ false
only7 = none_keeps (ticket7 (minus 11)) [] (rule 1 0 (minus 11)) impossible7

selected7 : selected (ticket7 (minus 11)) ≡ record { kept = []; dropped = 1 ∷ [] }
unfolding selected select
selected7 = rw only7 refl

-- ---- every row of the table is what the definitions answer

row : (ticket : List ℕ) (k : Ticket) (s : Selection) {written numbers : List ℕ} → wholly read_ticket ticket ≡ got k [] → selected k ≡ s
    → write_ticket (with_rules k s.kept) ≡ written → write_numbers s.dropped ≡ numbers
    → (out list : List ℕ) → 1584 ≤ length out → 514 ≤ length list → mending ticket out list ≡ writing written numbers out list
row ticket k s read e w n out list l m =
    mending_read ticket out list l m
    ∙ ap (after_reading out list) read
    ∙ ap (λ (x : Selection). writing (write_ticket (with_rules k x.kept)) (write_numbers x.dropped) out list) e
    ∙ (λ i. writing (w i) (n i) out list)

pub examples_hold : All Holds examples
unfolding read_ticket read_owner read_rule little many write_ticket write_rule bytes each write_numbers
examples_hold = (
  row bytes1 ticket1 (record { kept = ticket1.rules; dropped = [] }) refl selected1 refl refl,
  (
    row bytes6 three6 (record { kept = rule 1 2 (minus 1) ∷ rule 2 1 (pos 1) ∷ []; dropped = 2 ∷ [] }) refl selected6 refl refl,
    (row bytes7 (ticket7 (minus 11)) (record { kept = []; dropped = 1 ∷ [] }) refl selected7 refl refl, tt),
  ),
)
