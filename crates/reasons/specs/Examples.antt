-- The definitions at work, on bytes: the impossible tickets of 01's P6 and P7, whose ring is printed, and P1, which has a schedule, as one table: a ticket
-- and its labels, and what the call answers and leaves, whatever output of 2,200 bytes or more it is lent. The rings are those of `rings`' Examples.
use Rattle.std.specs.Prelude.{◌≡◌, List, [], ◌∷◌, ◌++◌, ℕ, ◌≤◌, pos, length}
use Rattle.temporal.specs.Ticket.{Ticket}
use Rattle.temporal.specs.Examples.{minus, ticket1, ticket6, ticket7}
use Rattle.ticket.specs.Writer.{write_ticket}
use Rattle.ticket.specs.Writing.{over}
use Rattle.names.specs.Bytes.{list_bytes}
use Rattle.reasons.specs.Reasoning.{reasoning}

-- ---- names, as ASCII codes

abbrev at : List ℕ
at = 97 ∷ 116 ∷ 32 ∷ []

abbrev by : List ℕ
by = 98 ∷ 121 ∷ 32 ∷ []

abbrev pub later : List ℕ
later = 108 ∷ 97 ∷ 116 ∷ 101 ∷ 114 ∷ []

abbrev pub sooner : List ℕ
sooner = 115 ∷ 111 ∷ 111 ∷ 110 ∷ 101 ∷ 114 ∷ []

abbrev pub last : List ℕ
last = 108 ∷ 97 ∷ 115 ∷ 116 ∷ []

abbrev start : List ℕ
start = 115 ∷ 116 ∷ 97 ∷ 114 ∷ 116 ∷ []

abbrev stage : List ℕ
stage = 115 ∷ 116 ∷ 97 ∷ 103 ∷ 101 ∷ []

-- camera, wheel, lamps, stage, database
abbrev pub roster : List ℕ
roster = list_bytes (
    (99 ∷ 97 ∷ 109 ∷ 101 ∷ 114 ∷ 97 ∷ [])
    ∷ (119 ∷ 104 ∷ 101 ∷ 101 ∷ 108 ∷ [])
    ∷ (108 ∷ 97 ∷ 109 ∷ 112 ∷ 115 ∷ [])
    ∷ stage
    ∷ (100 ∷ 97 ∷ 116 ∷ 97 ∷ 98 ∷ 97 ∷ 115 ∷ 101 ∷ [])
    ∷ []
    )

-- at later stage; by 1 -1; at sooner stage; by 2 0
abbrev pub text6 : List ℕ
text6 =
    at ++ (later ++ (32 ∷ (stage ++ (10 ∷ (by ++ (49 ∷ 32 ∷ 45 ∷ 49 ∷ 10 ∷
    (at ++ (sooner ++ (32 ∷ (stage ++ (10 ∷ (by ++ (50 ∷ 32 ∷ 48 ∷ 10 ∷ [])))))))))))))

-- at last stage; by 1 -11; at start; by 3 10
abbrev pub text7 : List ℕ
text7 =
    at ++ (last ++ (32 ∷ (stage ++ (10 ∷ (by ++ (49 ∷ 32 ∷ 45 ∷ 49 ∷ 49 ∷ 10 ∷
    (at ++ (start ++ (10 ∷ (by ++ (51 ∷ 32 ∷ 49 ∷ 48 ∷ 10 ∷ [])))))))))))

-- ---- the table

pub record Example : Type 0 where
  pub ticket : Ticket
  pub labels : List (List ℕ)
  pub number : ℕ
  pub text : List ℕ

abbrev pub prints : Ticket → List (List ℕ) → List ℕ → Example
prints k labels text = record { ticket = k; labels = labels; number = 0; text = text }

abbrev pub refuses : Ticket → List (List ℕ) → ℕ → Example
refuses k labels number = record { ticket = k; labels = labels; number = number; text = [] }

abbrev pub examples : List Example
examples =
    prints (ticket6 (pos 0)) (later ∷ sooner ∷ []) text6
    ∷ prints (ticket7 (minus 11)) (last ∷ []) text7
    ∷ refuses ticket1 (later ∷ sooner ∷ []) 17
    ∷ []

-- the text stands at the start of the output, and its length is returned
abbrev pub Holds : Example → Type 0
Holds x = (out : List ℕ) → 2200 ≤ length out
    → reasoning (write_ticket x.ticket) (list_bytes x.labels) roster out ≡ record { number = x.number; length = length x.text; out = over x.text out }
