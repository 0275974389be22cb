-- P1 of 01 in half and third ticks, as one table: windows that are fit on the grid, their total, and all their roundings, whose totals sum to it. None have a
-- total of more than 36 half ticks or 54 third ticks (`p1_most`), and after P2's commitment none that it allows have more than on whole ticks (`p2_finer`).
use Rattle.std.specs.Prelude.{◌≡◌, List, [], ◌∷◌, ℕ}
use Rattle.temporal.specs.Lists.{tab}
use Rattle.temporal.specs.Ticket.{Window, total}
use Rattle.temporal.specs.Examples.{span, ticket1}
use Rattle.rounding.specs.Grid.{FineFit}
use Rattle.rounding.specs.Rounded.{round_windows}

-- windows of P1's two events counted in so many parts of a tick, their total, and all their roundings
pub record Example : Type 0 where
  pub parts : ℕ
  pub windows : List Window
  pub total : ℕ
  pub rounded : List (List Window)

-- those of event 1 and of event 2
abbrev pub both : Window → Window → List Window
both w v = w ∷ v ∷ []

abbrev example : ℕ → Window → Window → ℕ → List (List Window) → Example
example q w v t rs = record { parts = q; windows = both w v; total = t; rounded = rs }

abbrev pub examples : List Example
examples =
    -- from 5½ to 11 and from 9 to 9½
    example 2 (span 11 22) (span 18 19) 34 (both (span 5 11) (span 9 9) ∷ both (span 6 11) (span 9 10) ∷ [])
    -- from 5½ to 11½ and at 9½
    ∷ example 2 (span 11 23) (span 19 19) 36 (both (span 5 11) (span 9 9) ∷ both (span 6 12) (span 10 10) ∷ [])
    -- from 5⅔ to 11 and from 9 to 9⅔
    ∷ example 3 (span 17 33) (span 27 29) 50 (both (span 5 11) (span 9 9) ∷ both (span 6 11) (span 9 10) ∷ both (span 6 11) (span 9 10) ∷ [])
    -- from 5⅓ to 11⅓ and at 9⅓
    ∷ example 3 (span 16 34) (span 28 28) 54 (both (span 5 11) (span 9 9) ∷ both (span 5 11) (span 9 9) ∷ both (span 6 12) (span 10 10) ∷ [])
    ∷ []

abbrev pub Holds : Example → Type 0
Holds e =
    FineFit e.parts ticket1 e.windows
    × (total ticket1 e.windows ≡ e.total)
    × (tab e.parts (λ s. round_windows e.parts s e.windows) ≡ e.rounded)
