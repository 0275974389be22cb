-- The laws of what specs/Examples defines.
use Rattle.std.specs.Prelude.{◌≡◌, refl, List, [], ◌↔◌, ℕ, zero, suc, ◌<◌, T, ltb}
use Rattle.std.proofs.Common.{arith, ltb→lt}
use Rattle.temporal.specs.Lists.{All, all, tab}
use Rattle.temporal.proofs.Lists.{test-All, All-at}
use Rattle.temporal.specs.Bound.{at_most, above, below}
use Rattle.temporal.specs.Ticket.{window_of, fits}
use Rattle.temporal.proofs.Ends.{fits_fit}
use Rattle.temporal.specs.Plan.{flagged}
use Rattle.temporal.specs.Run.{Own}
use Rattle.temporal.specs.Examples.{ticket1, plan1}
use Rattle.ticket.specs.Parser.{little, many, number}
use Rattle.ticket.specs.Format.{read_ticket, read_owner, read_rule, read_state, read_windows, read_window, read_same, read_counts, each_count, read_count}
use Rattle.ticket.specs.Writer.{bytes, each, write_window}
use Rattle.ticket.specs.RoundTrip.{Bytes}
use Rattle.runs.specs.Examples.{record1, unfit1}
use Rattle.viewing.specs.View.{may_see, seen_to, write_seen, write_view, viewed}
use Rattle.viewing.proofs.View.{viewing_unknown, viewing_read}
use Rattle.viewing.specs.Noninterference.{SameTo, Given, Noninterference}
use Rattle.viewing.proofs.Noninterference.{noninterference}
use Rattle.viewing.specs.Examples.{Holds, other, other1, record2, ticket2, views, ◌and◌}

pub views_hold : All Holds views
unfolding viewed may_see seen_to write_view write_seen write_window bytes each read_state read_windows read_window read_same read_counts each_count read_count tab read_ticket read_owner read_rule little many number fits at_most above below
views_hold =
    (λ out l. viewing_read record1 0 out l (omega arith))
    and (λ out l. viewing_read record1 1 out l (omega arith))
    and (λ out l. viewing_read record1 2 out l (omega arith))
    and (λ out l. viewing_read record1 3 out l (omega arith))
    and (λ out l. viewing_read record1 4 out l (omega arith))
    and (λ out l. viewing_read record2 0 out l (omega arith))
    and (λ out l. viewing_read record2 2 out l (omega arith))
    and (λ out l. viewing_read other1 0 out l (omega arith))
    and (λ out l. viewing_read other1 4 out l (omega arith))
    and (λ out l. viewing_unknown record1 5 out l (omega arith))
    and (λ out l. viewing_unknown [] 5 out l (omega arith))
    and (λ out l. viewing_read [] 4 out l (omega arith))
    and (λ out l. viewing_read unfit1 0 out l (omega arith))
    and (λ out l. viewing_read unfit1 3 out l (omega arith))
    and tt

same_to_camera : SameTo 0 plan1 other
same_to_camera = record { numbers = numbers; windows = windows; flags = flags; count = refl }
  where
    numbers : (p : ℕ) → Own ticket1 0 p ↔ Own ticket2 0 p
    numbers zero = (λ o. absurd (omega (arith, o.0.0)), λ o. absurd (omega (arith, o.0.0)))
    numbers (suc zero) = (λ o. ((omega arith, omega arith), refl), λ o. ((omega arith, omega arith), refl))
    numbers (suc (suc zero)) = (λ o. absurd (omega (arith, o.1)), λ o. absurd (omega (arith, o.1)))
    numbers (suc (suc (suc zero))) = (λ o. absurd (omega (arith, o.1)), λ o. absurd (omega (arith, o.1)))
    numbers (suc (suc (suc (suc i)))) = (λ o. absurd (omega (arith, o.1)), λ o. absurd (omega (arith, o.1)))

    windows : (p : ℕ) → Own ticket1 0 p → window_of plan1.windows p ≡ window_of other.windows p
    windows zero o = refl
    windows (suc zero) o = refl
    windows (suc (suc zero)) o = absurd (omega (arith, o.1))
    windows (suc (suc (suc i))) o = absurd (omega (arith, o.1))

    flags : (p : ℕ) → Own ticket1 0 p → flagged plan1.flags p ≡ flagged other.flags p
    flags zero o = refl
    flags (suc zero) o = refl
    flags (suc (suc zero)) o = absurd (omega (arith, o.1))
    flags (suc (suc (suc i))) o = absurd (omega (arith, o.1))

-- every number of the list is below 256
are_bytes : (s : List ℕ) → T (all (λ b. ltb b 256) s) → Bytes s
are_bytes s t = All-at (λ b. b < 256) 0 (omega arith) s (test-All (λ b. ltb b 256) (λ b h. ltb→lt b 256 h) s t)

given1 : Given record1 plan1
unfolding read_state read_windows read_window read_same read_counts each_count read_count tab read_ticket read_owner read_rule little many fits at_most above below
given1 = record { bytes = are_bytes record1 tt; holds = refl; fit = fits_fit ticket1 plan1.windows tt }

given_other : Given other1 other
unfolding read_state read_windows read_window read_same read_counts each_count read_count tab read_ticket read_owner read_rule little many fits at_most above below
given_other = record { bytes = are_bytes other1 tt; holds = refl; fit = fits_fit ticket2 other.windows tt }

-- so the theorem of two records applies to two that differ
pub camera_same : Noninterference 0 record1 other1
camera_same = noninterference 0 (omega arith) record1 other1 plan1 other given1 given_other same_to_camera
