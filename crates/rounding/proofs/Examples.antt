-- The laws of what specs/Examples defines.
use Rattle.std.specs.Prelude.{refl, List, [], ◌∷◌, ℕ, ◌≤◌, ◌<◌, T, ltb}
use Rattle.std.proofs.Common.{arith, ltb→lt}
use Rattle.temporal.specs.Lists.{All, tab}
use Rattle.temporal.proofs.Lists.{test-All, All-at}
use Rattle.temporal.specs.Bound.{at_most}
use Rattle.temporal.specs.Ticket.{Window, fits, weights, weight, total}
use Rattle.temporal.proofs.Ends.{fits_fit}
use Rattle.temporal.specs.Plan.{Commitment, asking}
use Rattle.temporal.specs.Run.{Valid, planning}
use Rattle.temporal.proofs.RunHolds.{distinct, run}
use Rattle.temporal.specs.Examples.{span, ticket1, plan1}
use Rattle.temporal.proofs.Examples.{p1, p2}
use Rattle.ticket.specs.Parser.{little, many}
use Rattle.ticket.specs.Format.{read_ticket, read_owner, read_rule}
use Rattle.ticket.proofs.RoundTrip.{written_read}
use Rattle.runs.specs.Examples.{bytes1}
use Rattle.rounding.specs.Grid.{FineFit, FineAllowed, NoneWider}
use Rattle.rounding.specs.Round.{round}
use Rattle.rounding.specs.Scale.{scale}
use Rattle.rounding.proofs.Scale.{fine_fit}
use Rattle.rounding.proofs.Finer.{finer_fit, finer_allowed}
use Rattle.rounding.specs.Examples.{Holds, both, examples}

-- ---- they hold

fine : (q : ℕ) (ws : List Window) → T (fits (scale q ticket1) ws) → FineFit q ticket1 ws
fine q ws t = (fine_fit q ticket1 ws).1 (fits_fit (scale q ticket1) ws t)

pub examples_hold : All Holds examples
unfolding fits at_most weight weights round tab
examples_hold = (
  (fine 2 (both (span 11 22) (span 18 19)) tt, refl, refl),
  (
    (fine 2 (both (span 11 23) (span 19 19)) tt, refl, refl),
    (
      (fine 3 (both (span 17 33) (span 27 29)) tt, refl, refl),
      ((fine 3 (both (span 16 34) (span 28 28)) tt, refl, refl), tt),
    ),
  ),
)

-- ---- and none is wider than those of 36 and of 54

-- P1's bytes are read
valid1 : Valid ticket1
unfolding read_ticket read_owner read_rule little many
valid1 = (written_read bytes1 ticket1 [] (All-at (λ b. b < 256) 0 (omega arith) bytes1 (test-All (λ b. ltb b 256) (λ b t. ltb→lt b 256 t) bytes1 tt)) refl).1

-- P2's commitment of event 1
abbrev narrow1 : Commitment
narrow1 = asking 0 1 10 10

-- P1's plan has the total 18, so on no grid a fit set is wider
pub p1_finer : NoneWider ticket1 18 (λ q. FineFit q ticket1)
unfolding weight weights
p1_finer =
    let c = (rw p1 at (run (planning ticket1) [] valid1)).3 in
    finer_fit ticket1 (distinct ticket1 valid1) plan1.windows c.allowed c.widest

pub p1_most : (ws : List Window) → (FineFit 2 ticket1 ws → total ticket1 ws ≤ 36) × (FineFit 3 ticket1 ws → total ticket1 ws ≤ 54)
p1_most ws = (λ f. p1_finer.none 2 (omega arith) ws f, λ f. p1_finer.none 3 (omega arith) ws f)

-- with event 1 at tick 10 event 2 may be 8..14, a total of 6, so on no grid it may be wider
pub p2_finer : NoneWider ticket1 6 (λ q. FineAllowed q ticket1 plan1 (narrow1 ∷ []) plan1.windows)
unfolding weight weights
p2_finer =
    let c = (rw p2 at (rw p1 at (run (planning ticket1) (narrow1 ∷ []) valid1)).4.1).1 in
    finer_allowed ticket1 (distinct ticket1 valid1) plan1 (narrow1 ∷ []) plan1.windows (both (span 10 10) (span 8 14)) c.allowed c.widest
