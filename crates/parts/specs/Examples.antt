-- The parts of P1, also on bytes, as one table: a device, its part and its total, whatever output of 362 bytes or more is lent. And the parts of P1 without the
-- two rules that join its devices: there the parts give the plan.
use Rattle.std.specs.Prelude.{◌≡◌, List, [], ◌∷◌, ℕ, ◌≤◌, pos, length}
use Rattle.temporal.specs.Ticket.{Ticket}
use Rattle.temporal.specs.Examples.{rule, minus}
use Rattle.parts.specs.Parting.{writing, parting}

-- ---- P1 on bytes

pub record Example : Type 0 where
  pub device : ℕ
  pub part : List ℕ
  pub total : ℕ

abbrev pub bytes1 : List ℕ
bytes1 =
    20 ∷ 0 ∷ 0 ∷ 0 ∷ 2 ∷ 0 ∷ 0 ∷ 2 ∷ 6 ∷ 0
    ∷ 0 ∷ 1 ∷ 15 ∷ 0 ∷ 0 ∷ 0
    ∷ 1 ∷ 0 ∷ 251 ∷ 255 ∷ 255 ∷ 255
    ∷ 0 ∷ 2 ∷ 20 ∷ 0 ∷ 0 ∷ 0
    ∷ 2 ∷ 0 ∷ 248 ∷ 255 ∷ 255 ∷ 255
    ∷ 1 ∷ 2 ∷ 4 ∷ 0 ∷ 0 ∷ 0
    ∷ 2 ∷ 1 ∷ 2 ∷ 0 ∷ 0 ∷ 0
    ∷ []

-- camera, wheel, lamps, stage, database
abbrev pub examples : List Example
examples =
    record { device = 0; part = 1 ∷ 0 ∷ 1 ∷ 5 ∷ 0 ∷ 0 ∷ 0 ∷ 15 ∷ 0 ∷ 0 ∷ 0 ∷ []; total = 30 }
    ∷ record { device = 1; part = 0 ∷ 0 ∷ []; total = 0 }
    ∷ record { device = 2; part = 1 ∷ 0 ∷ 2 ∷ 8 ∷ 0 ∷ 0 ∷ 0 ∷ 19 ∷ 0 ∷ 0 ∷ 0 ∷ []; total = 11 }
    ∷ record { device = 3; part = 0 ∷ 0 ∷ []; total = 0 }
    ∷ record { device = 4; part = 0 ∷ 0 ∷ []; total = 0 }
    ∷ []

-- the part stands at the start of the output, and its length and total are returned
abbrev pub Holds : Example → Type 0
Holds x = (out : List ℕ) → 362 ≤ length out → parting bytes1 x.device out ≡ writing x.part x.total out

-- ---- without the rules 1 to 2 and 2 to 1

abbrev pub apart1 : Ticket
apart1 = record { horizon = 20; owners = 0 ∷ 2 ∷ []; rules = rule 0 1 (pos 15) ∷ rule 1 0 (minus 5) ∷ rule 0 2 (pos 20) ∷ rule 2 0 (minus 8) ∷ [] }
