-- The definitions at work: the rings of the impossible tickets of 01 (P6, P7), of a ticket with a schedule (P1), and of two tickets with several rings,
-- as one table (`examples_hold`). Each is computed by `found`, which is `ring` (`ring_found`); nothing is enumerated.
use Rattle.std.specs.Prelude.{◌≡◌, List, [], ◌∷◌, ℕ, pos}
use Rattle.temporal.specs.Ticket.{Ticket}
use Rattle.temporal.specs.Examples.{rule, minus, ticket1, ticket6, ticket7}
use Rattle.rings.specs.Ring.{ring}

-- ---- the tickets

-- two rings of two rules: 1 2, of sum -1, and 2 3, of sum -2. The first in order is printed
abbrev pub two : Ticket
two = record { horizon = 10; owners = 0 ∷ 0 ∷ []; rules = rule 1 2 (pos 5) ∷ rule 2 1 (minus 6) ∷ rule 1 2 (pos 4) ∷ [] }

-- the ring 1 2 3 has more rules than 3 4
abbrev pub fewer : Ticket
fewer = record { horizon = 10; owners = 0 ∷ 0 ∷ 0 ∷ []; rules = rule 1 2 (pos 0) ∷ rule 2 3 (pos 0) ∷ rule 3 1 (minus 1) ∷ rule 1 3 (pos 0) ∷ [] }

-- ---- the table

pub record Example : Type 0 where
  pub ticket : Ticket
  pub rules : List ℕ

abbrev pub example : Ticket → List ℕ → Example
example k es = record { ticket = k; rules = es }

abbrev pub examples : List Example
examples =
    example (ticket6 (pos 0)) (1 ∷ 2 ∷ [])
    ∷ example (ticket7 (minus 11)) (1 ∷ 3 ∷ [])
    ∷ example ticket1 []
    ∷ example two (1 ∷ 2 ∷ [])
    ∷ example fewer (3 ∷ 4 ∷ [])
    ∷ []

abbrev pub Holds : Example → Type 0
Holds x = ring x.ticket ≡ x.rules
