-- The laws of what specs/Examples defines.
use Rattle.std.specs.Prelude.{◌≡◌, refl, true, false, List, [], ◌∷◌, ◌++◌, ℕ, ltb, pos, negsuc, length}
use Rattle.std.proofs.Common.{ap, ◌∙◌, arith}
use Rattle.temporal.specs.Lists.{All, tab}
use Rattle.temporal.specs.Bound.{at_most, above, below}
use Rattle.temporal.specs.Ticket.{Ticket, fits, weights, weight, total}
use Rattle.temporal.specs.Plan.{State, accepted, refused, plan, plan_latest, cause, commit, asking}
use Rattle.temporal.specs.Examples.{ticket1, plan1, record3 as state3, ticket4, plan4, ticket6, ticket7, ticket8, ticket10}
use Rattle.temporal.specs.Examples.{narrow1, tick1}
use Rattle.temporal.proofs.Examples.{narrowed, narrowed_again, narrowed_same, narrowed_stays, narrowed_full, counted_own}
use Rattle.temporal.specs.Examples.{owned4, owned10, record10 as state10}
use Rattle.temporal.proofs.Examples.{camera_between, database_alone, camera_database, database_contains}
use Rattle.temporal.proofs.Examples.{p1, p1_latest, p1_table, p2, p3, p4, p5, p6, p6_refused, p7, p7_refused, p8, p10}
use Rattle.ticket.specs.Parser.{got, number, little, many, wholly}
use Rattle.ticket.specs.Format.{read_ticket, read_owner, read_rule, read_state, read_windows, read_window, read_same, read_counts, each_count, read_count}
use Rattle.ticket.specs.Writer.{bytes, each, entries, write_rule, write_ticket, write_window, write_state}
use Rattle.ticket.specs.Writing.{over}
use Rattle.runs.specs.Calls.{room, cleared, answered, after_reading}
use Rattle.runs.specs.Calls.{planning, planning_latest, commit_for, commit_read, committing}
use Rattle.runs.proofs.Calls.{planning_read, planning_latest_read, committing_read}
use Rattle.runs.specs.Examples.{Holds, below_most, by_owners10, by_owners4, bytes1, bytes10, bytes4, bytes6, bytes7, bytes8, callings, countings, ended1, examples, expected, latest1, most, narrowed1, narrowings, record1, record10, record3, record4, ticked1, two, unfit1, weighings, ◌and◌, refuses, writes}

-- ---- a row, from what is read, decided and written

answered_as : (s : State) (written : List ℕ) (t : ℕ) (out scratch : List ℕ) → write_state s ≡ written → total s.ticket s.windows ≡ t
    → answered out scratch (accepted s) ≡ expected (writes written t) out scratch
answered_as s written t out scratch w q = λ i. record { number = 0; length = length (w i); total = q i; out = over (w i) out; scratch = cleared scratch }

module _ (ticket : List ℕ) {k : Ticket} (read : wholly read_ticket ticket ≡ got k []) (out scratch : List ℕ) (e : room out scratch ≡ true) where
  plans_writes : {s : State} (written : List ℕ) (t : ℕ) → plan k ≡ accepted s → write_state s ≡ written → total s.ticket s.windows ≡ t
      → planning ticket out scratch ≡ expected (writes written t) out scratch
  plans_writes {s} written t p w q =
      planning_read ticket out scratch e ∙ ap (after_reading out scratch plan) read ∙ ap (answered out scratch) p ∙ answered_as s written t out scratch w q

  latest_writes : {s : State} (written : List ℕ) (t : ℕ) → plan_latest k ≡ accepted s → write_state s ≡ written → total s.ticket s.windows ≡ t
      → planning_latest ticket out scratch ≡ expected (writes written t) out scratch
  latest_writes {s} written t p w q =
      planning_latest_read ticket out scratch e ∙ ap (after_reading out scratch plan_latest) read ∙ ap (answered out scratch) p
      ∙ answered_as s written t out scratch w q

  plans_refused : {r : ℕ} → plan k ≡ refused r → planning ticket out scratch ≡ expected (refuses r) out scratch
  plans_refused p = planning_read ticket out scratch e ∙ ap (after_reading out scratch plan) read ∙ ap (answered out scratch) p

module _ (given : List ℕ) {s : State} (read : wholly read_state given ≡ got s [])
    (caller event opens closes : ℕ) (known : ltb 4 caller ≡ false) (out scratch : List ℕ) (e : room out scratch ≡ true) where
  commits_decided : committing given caller event opens closes out scratch ≡ answered out scratch (commit s (asking caller event opens closes))
  unfolding commit_read
  commits_decided =
      committing_read given caller event opens closes out scratch e
      ∙ rw known (ap (after_reading out scratch (commit_for caller event opens closes)) read)

  commits_writes : {next : State} (written : List ℕ) (t : ℕ) → commit s (asking caller event opens closes) ≡ accepted next → write_state next ≡ written
      → total next.ticket next.windows ≡ t
      → committing given caller event opens closes out scratch ≡ expected (writes written t) out scratch
  commits_writes {next} written t p w q = commits_decided ∙ ap (answered out scratch) p ∙ answered_as next written t out scratch w q

  commits_refused : {r : ℕ} → commit s (asking caller event opens closes) ≡ refused r
      → committing given caller event opens closes out scratch ≡ expected (refuses r) out scratch
  commits_refused p = commits_decided ∙ ap (answered out scratch) p

-- ---- every row of the tables holds

read1 : wholly read_ticket bytes1 ≡ got ticket1 []
unfolding read_ticket read_owner read_rule little many
read1 = refl

read4 : wholly read_ticket bytes4 ≡ got ticket4 []
unfolding read_ticket read_owner read_rule little many
read4 = refl

read_record1 : wholly read_state record1 ≡ got plan1 []
unfolding read_state read_windows read_window read_same read_counts each_count read_count tab read_ticket read_owner read_rule little many
read_record1 = refl

read_record3 : wholly read_state record3 ≡ got state3 []
unfolding read_state read_windows read_window read_same read_counts each_count read_count tab read_ticket read_owner read_rule little many
read_record3 = refl

read_record4 : wholly read_state record4 ≡ got plan4 []
unfolding read_state read_windows read_window read_same read_counts each_count read_count tab read_ticket read_owner read_rule little many
read_record4 = refl

pub examples_hold : All Holds examples
unfolding read_ticket read_owner read_rule little many number write_state write_ticket write_rule write_window entries bytes each weight weights
examples_hold =
    p1_table
    and (λ out scratch e. plans_writes bytes1 read1 out scratch e record1 18 p1 refl refl)
    and (λ out scratch e. latest_writes bytes1 read1 out scratch e latest1 18 p1_latest refl refl)
    and (λ out scratch e. commits_writes record1 read_record1 0 1 10 10 refl out scratch e _ 6 p2 refl refl)
    and (λ out scratch e. commits_writes record3 read_record3 2 2 13 13 refl out scratch e _ 18 p3 refl refl)
    and (λ out scratch e. plans_writes bytes4 read4 out scratch e record4 5 p4 refl refl)
    and (λ out scratch e. commits_writes record4 read_record4 3 1 2 2 refl out scratch e _ 2 p5 refl refl)
    and (λ out scratch e. plans_writes (bytes6 1) {k = ticket6 (pos 1)} refl out scratch e _ 0 p6 refl refl)
    and (λ out scratch e. plans_refused (bytes6 0) {k = ticket6 (pos 0)} refl out scratch e p6_refused)
    and (λ out scratch e. plans_writes (bytes7 10) {k = ticket7 (negsuc 9)} refl out scratch e _ 0 p7 refl refl)
    and (λ out scratch e. plans_refused (bytes7 11) {k = ticket7 (negsuc 10)} refl out scratch e p7_refused)
    and (λ out scratch e. plans_writes bytes8 {k = ticket8} refl out scratch e _ 0 p8 refl refl)
    and (λ out scratch e. planning_read [] out scratch e)
    and (λ out scratch e. plans_writes bytes10 {k = ticket10} refl out scratch e _ 10 p10 refl refl)
    and tt

read_narrowed1 : wholly read_state narrowed1 ≡ got narrow1 []
unfolding read_state read_windows read_window read_same read_counts each_count read_count tab read_ticket read_owner read_rule little many
read_narrowed1 = refl

pub narrowings_hold : All Holds narrowings
unfolding read_state read_windows read_window read_same read_counts each_count read_count tab read_ticket read_owner read_rule little many number write_state write_ticket write_rule write_window entries bytes each weight weights
narrowings_hold =
    (λ out scratch e. commits_writes record1 read_record1 0 1 6 10 refl out scratch e _ 14 narrowed refl refl)
    and (λ out scratch e. commits_writes narrowed1 read_narrowed1 0 1 10 10 refl out scratch e _ 6 narrowed_again refl refl)
    and (λ out scratch e. commits_writes (ticked1 (two 2) (two 0)) {s = tick1 2} refl 0 1 10 10 refl out scratch e _ 6 (narrowed_same 2 (λ q. omega arith)) refl refl)
    and (λ out scratch e. commits_refused (ticked1 (two 2) (two 0)) {s = tick1 2} refl 0 1 6 10 refl out scratch e (narrowed_stays 2))
    and (λ out scratch e. commits_writes (ticked1 below_most (two 0)) {s = tick1 65534} refl 0 1 10 10 refl out scratch e _ 6 (narrowed_same 65534 (λ q. omega arith)) refl refl)
    and (λ out scratch e. commits_refused (ticked1 most (two 0)) {s = tick1 65535} refl 0 1 10 10 refl out scratch e narrowed_full)
    and (λ out scratch e. commits_refused (ticked1 most (two 0)) {s = tick1 65535} refl 0 1 6 10 refl out scratch e (narrowed_stays 65535))
    and tt

pub countings_hold : All Holds countings
unfolding commit_read read_state read_windows read_window read_same read_counts each_count read_count tab read_ticket read_owner read_rule little many number write_state write_ticket write_rule write_window entries bytes each weight weights
countings_hold =
    (λ out scratch e. committing_read (ticked1 (two 0) (two 1)) 2 2 14 14 out scratch e)
    and (λ out scratch e. committing_read (ended1 (two 5 ++ two 0)) 2 2 14 14 out scratch e)
    and (λ out scratch e. committing_read (ended1 (two 5 ++ two 1)) 2 2 14 14 out scratch e)
    and (λ out scratch e. committing_read (ended1 (two 1)) 2 2 14 14 out scratch e)
    and (λ out scratch e. committing_read (ended1 (two 5)) 2 2 14 14 out scratch e)
    and (λ out scratch e. commits_writes (ticked1 most (two 0)) {s = tick1 65535} refl 2 2 14 14 refl out scratch e _ 0 counted_own refl refl)
    and tt

pub weighings_hold : All Holds weighings
unfolding read_state read_windows read_window read_same read_counts each_count read_count tab read_ticket read_owner read_rule little many number write_state write_ticket write_rule write_window entries bytes each weight weights
weighings_hold =
    (λ out scratch e. plans_writes (by_owners4 3 0 3) {k = owned4 (3 ∷ 0 ∷ 3 ∷ [])} refl out scratch e _ 15 camera_between refl refl)
    and (λ out scratch e. plans_writes (by_owners4 4 4 4) {k = owned4 (4 ∷ 4 ∷ 4 ∷ [])} refl out scratch e _ 0 database_alone refl refl)
    and (λ out scratch e. plans_writes (by_owners10 0 4) {k = owned10 (0 ∷ 4 ∷ [])} refl out scratch e _ 15 camera_database refl refl)
    and (λ out scratch e. commits_writes record10 {s = state10} refl 0 1 2 2 refl out scratch e _ 0 database_contains refl refl)
    and tt

pub callings_hold : All Holds callings
unfolding commit_read commit cause read_state read_windows read_window read_same read_counts each_count read_count tab read_ticket read_owner read_rule little many number fits at_most above below
callings_hold =
    (λ out scratch e. committing_read record1 0 2 9 9 out scratch e)
    and (λ out scratch e. committing_read record1 0 2 0 20 out scratch e)
    and (λ out scratch e. committing_read record1 4 1 10 10 out scratch e)
    and (λ out scratch e. committing_read record1 0 0 0 0 out scratch e)
    and (λ out scratch e. committing_read record1 0 3 10 10 out scratch e)
    and (λ out scratch e. committing_read record1 5 1 10 10 out scratch e)
    and (λ out scratch e. committing_read [] 5 1 10 10 out scratch e)
    and (λ out scratch e. committing_read [] 4 1 10 10 out scratch e)
    and (λ out scratch e. committing_read unfit1 0 2 9 9 out scratch e)
    and (λ out scratch e. committing_read (ticked1 most (two 0)) 2 1 10 10 out scratch e)
    and tt
