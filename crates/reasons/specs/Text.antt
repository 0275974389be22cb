-- The text of a ring of rules (02, change 2): point lines and rule lines, as lists of ASCII codes. Definitions alone.
-- Rests on `paths` for the rules by their numbers, on `names` for the lists of names, and on `text` for decimal numbers and lines.
use Rattle.std.specs.Prelude.{List, [], ◌∷◌, ◌++◌, ℕ, zero, suc, ℤ, pos, negsuc, get_or}
use Rattle.temporal.specs.Ticket.{Ticket}
use Rattle.text.specs.Text.{decimal, line}
use Rattle.names.specs.Names.{name_at}
use Rattle.paths.specs.Rules.{from_of, bound_of}

-- a number with its sign: '-' stands in front of one below 0
unfoldable pub signed_decimal : ℤ → List ℕ
signed_decimal (pos n) = decimal n
signed_decimal (negsuc n) = 45 ∷ decimal (suc n)

-- "at", the event's name and its device's name
unfoldable pub at_line : List ℕ → List ℕ → List ℕ
at_line label device = line (97 ∷ 116 ∷ []) (label ∷ device ∷ [])

-- of session start "at start"; of event i the i-th label, and of its owner o, counted from 0, the o-th name of the roster
unfoldable pub point_line : (owners labels roster : List ℕ) → ℕ → List ℕ
point_line owners labels roster zero = line (97 ∷ 116 ∷ []) ((115 ∷ 116 ∷ 97 ∷ 114 ∷ 116 ∷ []) ∷ [])
point_line owners labels roster (suc i) = at_line (name_at labels i) (name_at roster (get_or owners i 0))

-- "by", the rule number and the bound
unfoldable pub rule_line : ℕ → ℤ → List ℕ
rule_line x c = line (98 ∷ 121 ∷ []) (decimal x ∷ signed_decimal c ∷ [])

-- "A point line is followed by a rule line, and a rule line by a point line, until the ring closes; the last line is a rule line": for each rule of the
-- ring the line of the point that it goes from, and its own
unfoldable pub ring_text : Ticket → (labels roster ring : List ℕ) → List ℕ
ring_text k labels roster [] = []
ring_text k labels roster (x ∷ xs) = point_line k.owners labels roster (from_of k x) ++ (rule_line x (bound_of k x) ++ ring_text k labels roster xs)
