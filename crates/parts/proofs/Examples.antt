-- The laws of what specs/Examples defines.
use Rattle.std.specs.Prelude.{◌≡◌, refl, List, [], ◌∷◌, ◌++◌, ℕ, ◌≤◌, ℤ, pos, length, get_or}
use Rattle.std.proofs.Common.{sym, ap, ap₂, ◌∙◌, arith}
use Rattle.temporal.specs.Lists.{All, tab}
use Rattle.temporal.proofs.Lists.{T-true}
use Rattle.temporal.specs.Bound.{at_most}
use Rattle.temporal.specs.Ticket.{Schedule, is_schedule, Window, origin, weights, weight, total, fits}
use Rattle.temporal.proofs.Ends.{test_schedule}
use Rattle.temporal.specs.Distance.{consistent}
use Rattle.temporal.proofs.Distance.{consistent_has, distance_is}
use Rattle.temporal.specs.Best.{best}
use Rattle.temporal.specs.Examples.{minus, span, ticket1}
use Rattle.temporal.proofs.Examples.{distances1, consistent1}
use Rattle.ticket.specs.Parser.{little, many}
use Rattle.ticket.specs.Format.{read_ticket, read_owner, read_rule}
use Rattle.ticket.specs.Writer.{bytes, each}
use Rattle.ticket.specs.Writing.{firsts}
use Rattle.parts.specs.Part.{owned_from, part_ticket, restrict, part_plan, part_total, part_totals, sum}
use Rattle.parts.proofs.OneEvent.{one_event}
use Rattle.parts.proofs.Parts.{parts_equal}
use Rattle.parts.specs.Parting.{write_numbered, write_part, writing, parting}
use Rattle.parts.proofs.Parting.{parting_read, parted_some}
use Rattle.parts.specs.Examples.{Holds, apart1, bytes1, examples}

-- ---- P1

-- an entry of its table of distances
entry : ℕ → List ℤ → ℤ
entry p xs = get_or xs p (pos 0)

-- the camera's event 1 at 5 to 15
pub p1_camera : part_plan 0 ticket1 ≡ span 5 15 ∷ []
unfolding entry tab owned_from weight weights
p1_camera = one_event 0 ticket1 1 5 15 refl (omega arith) (omega arith) (omega arith) (ap (entry 1) distances1) (ap (entry 3) distances1)

-- the lamps' event 2 at 8 to 19
pub p1_lamps : part_plan 2 ticket1 ≡ span 8 19 ∷ []
unfolding entry tab owned_from weight weights
p1_lamps = one_event 2 ticket1 2 8 19 refl (omega arith) (omega arith) (omega arith) (ap (entry 2) distances1) (ap (entry 6) distances1)

-- the line under the plan; the whole total is 18
pub p1_totals : part_totals ticket1 ≡ 30 ∷ 0 ∷ 11 ∷ 0 ∷ 0 ∷ []
unfolding tab owned_from weight weights
p1_totals = ap₂ (λ camera lamps. total (part_ticket 0 ticket1) camera ∷ 0 ∷ total (part_ticket 2 ticket1) lamps ∷ 0 ∷ 0 ∷ []) p1_camera p1_lamps

-- the part with these events and these windows
abbrev part_of : List ℕ → List Window → List ℕ
part_of ps ws = bytes 2 (length ps) ++ each write_numbered (firsts (length ps) (λ i. record { event = get_or ps i 0; window = get_or ws i origin }))

row : (d : ℕ) {part : List ℕ} {total : ℕ} → d ≤ 4 → write_part d ticket1 ≡ part → part_total d ticket1 ≡ total → (out : List ℕ) → 362 ≤ length out
    → parting bytes1 d out ≡ writing part total out
unfolding read_ticket read_owner read_rule little many
row d m w t out l =
    parting_read bytes1 d out l m
    ∙ parted_some d ticket1 out (T-true (consistent ticket1) consistent1)
    ∙ (λ i. writing (w i) (t i) out)

pub examples_hold : All Holds examples
unfolding owned_from write_part write_numbered bytes each firsts weight weights
examples_hold = (
  row 0 (omega arith) (ap (part_of (1 ∷ [])) p1_camera) (ap (total (part_ticket 0 ticket1)) p1_camera),
  (
    row 1 (omega arith) refl refl,
    (
      row 2 (omega arith) (ap (part_of (2 ∷ [])) p1_lamps) (ap (total (part_ticket 2 ticket1)) p1_lamps),
      (row 3 (omega arith) refl refl, (row 4 (omega arith) refl refl, tt)),
    ),
  ),
)

soonest : Schedule apart1 (5 ∷ 8 ∷ [])
unfolding is_schedule at_most
soonest = test_schedule apart1 (5 ∷ 8 ∷ []) tt

latest : Schedule apart1 (15 ∷ 20 ∷ [])
unfolding is_schedule at_most
latest = test_schedule apart1 (15 ∷ 20 ∷ []) tt

pub apart1_camera : part_plan 0 apart1 ≡ span 5 15 ∷ []
unfolding owned_from weight weights
apart1_camera = one_event 0 apart1 1 5 15 refl (omega arith) (omega arith) (omega arith)
    (distance_is apart1 0 1 (pos 15) (15 ∷ 20 ∷ []) latest refl (λ us s. s.obeys.0))
    (distance_is apart1 1 0 (minus 5) (5 ∷ 8 ∷ []) soonest refl (λ us s. s.obeys.1.0))

pub apart1_lamps : part_plan 2 apart1 ≡ span 8 20 ∷ []
unfolding owned_from weight weights
apart1_lamps = one_event 2 apart1 2 8 20 refl (omega arith) (omega arith) (omega arith)
    (distance_is apart1 0 2 (pos 20) (15 ∷ 20 ∷ []) latest refl (λ us s. s.obeys.1.1.0))
    (distance_is apart1 2 0 (minus 8) (5 ∷ 8 ∷ []) soonest refl (λ us s. s.obeys.1.1.1.0))

apart1_equal : (sum (part_totals apart1) ≡ total apart1 (best apart1 (fits apart1)))
    × ((d : ℕ) → d ≤ 4 → part_plan d apart1 ≡ restrict d apart1 (best apart1 (fits apart1)))
apart1_equal = parts_equal apart1 ((consistent_has apart1).1 (5 ∷ 8 ∷ [], soonest)) (omega arith) (omega arith) (omega arith) (omega arith)

-- so the plan has these windows
pub apart1_windows : (restrict 0 apart1 (best apart1 (fits apart1)) ≡ span 5 15 ∷ []) × (restrict 2 apart1 (best apart1 (fits apart1)) ≡ span 8 20 ∷ [])
apart1_windows = (sym (apart1_equal.1 0 (omega arith)) ∙ apart1_camera, sym (apart1_equal.1 2 (omega arith)) ∙ apart1_lamps)

-- and the total 30 + 12
pub apart1_total : total apart1 (best apart1 (fits apart1)) ≡ 42
unfolding tab owned_from weight weights sum
apart1_total =
    sym apart1_equal.0
    ∙ ap₂ (λ camera lamps. sum (total (part_ticket 0 apart1) camera ∷ 0 ∷ total (part_ticket 2 apart1) lamps ∷ 0 ∷ 0 ∷ [])) apart1_camera apart1_lamps
