-- The laws of what specs/Examples defines.
use Rattle.std.specs.Prelude.{◌≡◌, refl, true, false, List, [], ◌∷◌, ◌++◌, ℕ, zero, suc, ◌+◌, ◌*◌, ◌-◌, ◌≤◌, ◌≢◌, T, ℤ, pos, length, get_or, drop}
use Rattle.std.proofs.Common.{sym, ap, ◌∙◌, ne_eqb}
use native.Mathlib.Omega.{arith}
use Rattle.std.proofs.Math.IntN.{sub_ℕ}
use Rattle.temporal.proofs.Lists.{All-at}
use Rattle.temporal.specs.Lists.{upto, tab}
use Rattle.temporal.specs.Bound.{at_most, above, below}
use Rattle.temporal.proofs.Bound.{signed}
use Rattle.temporal.specs.Ticket.{time, Schedule, is_schedule, Window, origin, window_of, fits, weights, weight, total_of}
use Rattle.temporal.proofs.Ends.{fits_ends, test_schedule}
use Rattle.temporal.specs.Best.{Sooner}
use Rattle.temporal.specs.Distance.{consistent, distance}
use Rattle.temporal.proofs.Distance.{consistent_has, distance_is}
use Rattle.temporal.specs.Plan.{asking, refused, accepted, keeps, grows, plan, plan_latest, cause, commit}
use Rattle.temporal.proofs.FitSets.{test_grows}
use Rattle.temporal.proofs.Answers.{plan_is, plan_latest_is, plan_refused, commit_is}
use Rattle.temporal.specs.Table.{or_else, rule_cause, rules_cause, rows, table_of}
use Rattle.temporal.proofs.TableCauses.{cause_last, accepts}
use Rattle.temporal.proofs.TableOwners.{plain_consistent, plain_distance}
use Rattle.temporal.specs.Examples.{both1, five, latest1, minus, narrow1, owned10, owned4, plan1, plan4, record10, record3, span, state, tick1, ticket1, ticket10, ticket4, ticket6, ticket7, ticket8}

-- ---- total width and order of few windows, window by window

abbrev total_at : List ℕ → (ℕ → Window) → ℕ
total_at [] f = 0
total_at (owner ∷ owners) f = weight owner * ((f 0).closes - (f 0).opens) + total_at owners (λ i. f (suc i))

total_at_lem : (owners : List ℕ) (vs : List Window) → length vs ≡ length owners → total_of owners vs ≡ total_at owners (λ i. window_of vs (suc i))
total_at_lem [] vs e = refl
total_at_lem (owner ∷ owners) [] e = absurd (omega arith)
total_at_lem (owner ∷ owners) (v ∷ vs) e = ap (λ n. weight owner * (v.closes - v.opens) + n) (total_at_lem owners vs (omega arith))

abbrev Before : List Window → (ℕ → Window) → Type 0
Before [] f = Unit {0}
Before (w ∷ ws) f = ((w.opens ≤ (f 0).opens) × (w.closes ≤ (f 0).closes)) × Before ws (λ i. f (suc i))

before_at : (ws : List Window) (f : ℕ → Window) → Before ws f → (i : ℕ) → ((get_or ws i origin).opens ≤ (f i).opens) × ((get_or ws i origin).closes ≤ (f i).closes)
before_at [] f h i = (omega arith, omega arith)
before_at (w ∷ ws) f h zero = h.0
before_at (w ∷ ws) f h (suc i) = before_at ws (λ j. f (suc j)) h.1 i

sooner_at : (ws vs : List Window) → Before ws (λ i. window_of vs (suc i)) → Sooner ws vs
sooner_at ws vs h zero = (omega arith, omega arith)
sooner_at ws vs h (suc i) = before_at ws (λ j. window_of vs (suc j)) h i

-- the same the other way: no end is later
abbrev After : List Window → (ℕ → Window) → Type 0
After [] f = Unit {0}
After (w ∷ ws) f = (((f 0).opens ≤ w.opens) × ((f 0).closes ≤ w.closes)) × After ws (λ i. f (suc i))

later_at : (ws vs : List Window) → length vs ≡ length ws → After ws (λ i. window_of vs (suc i)) → Sooner vs ws
later_at ws vs e h zero = (omega arith, omega arith)
later_at [] [] e h (suc i) = (omega arith, omega arith)
later_at [] (v ∷ vs) e h (suc i) = absurd (omega arith)
later_at (w ∷ ws) [] e h (suc i) = absurd (omega arith)
later_at (w ∷ ws) (v ∷ vs) e h (suc zero) = h.0
later_at (w ∷ ws) (v ∷ vs) e h (suc (suc i)) = later_at ws vs (omega arith) h.1 (suc i)

-- ---- the calls

pub p1 : plan ticket1 ≡ accepted plan1
unfolding is_schedule fits at_most above below weight weights
p1 = plan_is ticket1 (5 ∷ 8 ∷ []) (span 5 11 ∷ span 9 9 ∷ []) tt (record {
  allowed = fits_ends ticket1 (span 5 11 ∷ span 9 9 ∷ []) tt;
  widest = λ vs e. omega (arith, total_at_lem ticket1.owners vs e.count, e.obeys, e.ordered 1, e.ordered 2);
  earliest = λ vs e t. sooner_at (span 5 11 ∷ span 9 9 ∷ []) vs (omega (arith, total_at_lem ticket1.owners vs e.count, e.obeys, e.ordered 1, e.ordered 2));
})

-- 02, change 7: P1's "latest plan 9..15 and 13..13"
pub p1_latest : plan_latest ticket1 ≡ accepted latest1
unfolding is_schedule fits at_most above below weight weights
p1_latest = plan_latest_is ticket1 (5 ∷ 8 ∷ []) (span 9 15 ∷ span 13 13 ∷ []) tt (record {
  allowed = fits_ends ticket1 (span 9 15 ∷ span 13 13 ∷ []) tt;
  widest = λ vs e. omega (arith, total_at_lem ticket1.owners vs e.count, e.obeys, e.ordered 1, e.ordered 2);
  latest = λ vs e t. later_at (span 9 15 ∷ span 13 13 ∷ []) vs e.count
      (omega (arith, total_at_lem ticket1.owners vs e.count, e.obeys, e.ordered 1, e.ordered 2));
})

pub p2 : commit plan1 (asking 0 1 10 10) ≡ accepted (state ticket1 (span 10 10 ∷ span 8 14 ∷ []) (true ∷ false ∷ []) (five 1 0 0 0 0))
unfolding cause fits at_most above below weight weights
p2 = commit_is plan1 (asking 0 1 10 10) (span 10 10 ∷ span 8 14 ∷ []) refl (record {
  allowed = test_grows ticket1 (true ∷ false ∷ []) (span 10 10 ∷ span 9 9 ∷ []) (span 10 10 ∷ span 8 14 ∷ []) (unfold grows keeps upto in tt);
  widest = λ vs g. omega (arith, total_at_lem ticket1.owners vs g.ends.count, g.ends.obeys, g.kept 1 (omega arith), g.kept 2 (omega arith));
  earliest = λ vs g t. sooner_at (span 10 10 ∷ span 8 14 ∷ []) vs
      (omega (arith, total_at_lem ticket1.owners vs g.ends.count, g.ends.obeys, g.kept 1 (omega arith), g.kept 2 (omega arith)));
})

pub p3 : commit record3 (asking 2 2 13 13) ≡ accepted (state ticket1 (span 9 15 ∷ span 13 13 ∷ []) (false ∷ true ∷ []) (five 0 0 1 0 0))
unfolding cause fits at_most above below weight weights
p3 = commit_is record3 (asking 2 2 13 13) (span 9 15 ∷ span 13 13 ∷ []) refl (record {
  allowed = test_grows ticket1 (false ∷ true ∷ []) (span 15 15 ∷ span 13 13 ∷ []) (span 9 15 ∷ span 13 13 ∷ []) (unfold grows keeps upto in tt);
  widest = λ vs g. omega (arith, total_at_lem ticket1.owners vs g.ends.count, g.ends.obeys, g.kept 1 (omega arith), g.kept 2 (omega arith));
  earliest = λ vs g t. sooner_at (span 9 15 ∷ span 13 13 ∷ []) vs
      (omega (arith, total_at_lem ticket1.owners vs g.ends.count, g.ends.obeys, g.kept 1 (omega arith), g.kept 2 (omega arith)));
})

pub p4 : plan ticket4 ≡ accepted plan4
unfolding is_schedule fits at_most above below weight weights
p4 = plan_is ticket4 (0 ∷ 0 ∷ 0 ∷ []) (span 0 5 ∷ span 0 0 ∷ span 0 0 ∷ []) tt (record {
  allowed = fits_ends ticket4 (span 0 5 ∷ span 0 0 ∷ span 0 0 ∷ []) tt;
  widest = λ vs e. omega (arith, total_at_lem ticket4.owners vs e.count, e.obeys, e.ordered 1, e.ordered 2, e.ordered 3, e.inside 1);
  earliest = λ vs e t. sooner_at (span 0 5 ∷ span 0 0 ∷ span 0 0 ∷ []) vs
      (omega (arith, total_at_lem ticket4.owners vs e.count, e.obeys, e.ordered 1, e.ordered 2, e.ordered 3, e.inside 1));
})

pub p5 : commit plan4 (asking 3 1 2 2) ≡ accepted (state ticket4 (span 2 2 ∷ span 0 2 ∷ span 0 0 ∷ []) (true ∷ false ∷ false ∷ []) (five 0 0 0 1 0))
unfolding cause fits at_most above below weight weights
p5 = commit_is plan4 (asking 3 1 2 2) (span 2 2 ∷ span 0 2 ∷ span 0 0 ∷ []) refl (record {
  allowed = test_grows ticket4 (true ∷ false ∷ false ∷ []) (span 2 2 ∷ span 0 0 ∷ span 0 0 ∷ []) (span 2 2 ∷ span 0 2 ∷ span 0 0 ∷ []) (unfold grows keeps upto in tt);
  widest = λ vs g. omega (arith, total_at_lem ticket4.owners vs g.ends.count, g.ends.obeys, g.kept 1 (omega arith), g.kept 2 (omega arith), g.kept 3 (omega arith));
  earliest = λ vs g t. sooner_at (span 2 2 ∷ span 0 2 ∷ span 0 0 ∷ []) vs
      (omega (arith, total_at_lem ticket4.owners vs g.ends.count, g.ends.obeys, g.kept 1 (omega arith), g.kept 2 (omega arith), g.kept 3 (omega arith)));
})

pub p6 : plan (ticket6 (pos 1)) ≡ accepted (state (ticket6 (pos 1)) (span 1 1 ∷ span 0 0 ∷ []) (false ∷ false ∷ []) (five 0 0 0 0 0))
unfolding is_schedule fits at_most above below weight weights
p6 = plan_is (ticket6 (pos 1)) (1 ∷ 0 ∷ []) (span 1 1 ∷ span 0 0 ∷ []) tt (record {
  allowed = fits_ends (ticket6 (pos 1)) (span 1 1 ∷ span 0 0 ∷ []) tt;
  widest = λ vs e. omega (arith, total_at_lem (3 ∷ 3 ∷ []) vs e.count, e.obeys, e.ordered 1, e.ordered 2);
  earliest = λ vs e t. sooner_at (span 1 1 ∷ span 0 0 ∷ []) vs (omega (arith, e.obeys, e.ordered 1, e.ordered 2));
})

pub impossible6 : (ts : List ℕ) → ¬ Schedule (ticket6 (pos 0)) ts
impossible6 ts s = unfold above below in omega (arith, (signed (time ts 1) (time ts 2) (minus 1)).0 s.obeys.0, (signed (time ts 2) (time ts 1) (pos 0)).0 s.obeys.1.0)

pub p6_refused : plan (ticket6 (pos 0)) ≡ refused 9
p6_refused = plan_refused (ticket6 (pos 0)) impossible6

pub p7 : plan (ticket7 (minus 10)) ≡ accepted (state (ticket7 (minus 10)) (span 10 10 ∷ []) (false ∷ []) (five 0 0 0 0 0))
unfolding is_schedule fits at_most above below weight weights
p7 = plan_is (ticket7 (minus 10)) (10 ∷ []) (span 10 10 ∷ []) tt (record {
  allowed = fits_ends (ticket7 (minus 10)) (span 10 10 ∷ []) tt;
  widest = λ vs e. omega (arith, total_at_lem (3 ∷ []) vs e.count, e.obeys, e.inside 1);
  earliest = λ vs e t. sooner_at (span 10 10 ∷ []) vs (omega (arith, e.obeys, e.ordered 1));
})

pub impossible7 : (ts : List ℕ) → ¬ Schedule (ticket7 (minus 11)) ts
impossible7 ts s = unfold above below in omega (arith, (signed (time ts 1) (time ts 0) (minus 11)).0 s.obeys.0, All-at (λ t. t ≤ 10) 0 (omega arith) (0 ∷ ts) (omega arith, s.inside) 1)

pub p7_refused : plan (ticket7 (minus 11)) ≡ refused 9
p7_refused = plan_refused (ticket7 (minus 11)) impossible7

pub p8 : plan ticket8 ≡ accepted (state ticket8 [] [] (five 0 0 0 0 0))
unfolding is_schedule fits
p8 = plan_is ticket8 [] [] tt (record {
  allowed = fits_ends ticket8 [] tt;
  widest = λ vs e. omega arith;
  earliest = λ vs e t. sooner_at [] vs tt;
})

pub p10 : plan ticket10 ≡ accepted (state ticket10 (span 0 5 ∷ span 0 5 ∷ []) (false ∷ false ∷ []) (five 0 0 0 0 0))
unfolding is_schedule fits weight weights
p10 = plan_is ticket10 (0 ∷ 0 ∷ []) (span 0 5 ∷ span 0 5 ∷ []) tt (record {
  allowed = fits_ends ticket10 (span 0 5 ∷ span 0 5 ∷ []) tt;
  widest = λ vs e. omega (arith, total_at_lem ticket10.owners vs e.count, e.inside 1, e.inside 2);
  earliest = λ vs e t. sooner_at (span 0 5 ∷ span 0 5 ∷ []) vs (omega (arith, total_at_lem ticket10.owners vs e.count, e.inside 1, e.inside 2));
})

pub narrowed : commit plan1 (asking 0 1 6 10) ≡ accepted narrow1
unfolding cause fits at_most above below weight weights
narrowed = commit_is plan1 (asking 0 1 6 10) (span 6 10 ∷ span 8 10 ∷ []) refl (record {
  allowed = test_grows ticket1 (true ∷ false ∷ []) (span 6 10 ∷ span 9 9 ∷ []) (span 6 10 ∷ span 8 10 ∷ []) (unfold grows keeps upto in tt);
  widest = λ vs g. omega (arith, total_at_lem ticket1.owners vs g.ends.count, g.ends.obeys, g.kept 1 (omega arith), g.kept 2 (omega arith));
  earliest = λ vs g t. sooner_at (span 6 10 ∷ span 8 10 ∷ []) vs
      (omega (arith, total_at_lem ticket1.owners vs g.ends.count, g.ends.obeys, g.kept 1 (omega arith), g.kept 2 (omega arith)));
})

pub narrowed_again : commit narrow1 (asking 0 1 10 10) ≡ accepted (tick1 2)
unfolding cause fits at_most above below weight weights
narrowed_again = commit_is narrow1 (asking 0 1 10 10) (span 10 10 ∷ span 8 14 ∷ []) refl (record {
  allowed = test_grows ticket1 (true ∷ false ∷ []) (span 10 10 ∷ span 8 10 ∷ []) (span 10 10 ∷ span 8 14 ∷ []) (unfold grows keeps upto in tt);
  widest = λ vs g. omega (arith, total_at_lem ticket1.owners vs g.ends.count, g.ends.obeys, g.kept 1 (omega arith), g.kept 2 (omega arith));
  earliest = λ vs g t. sooner_at (span 10 10 ∷ span 8 14 ∷ []) vs
      (omega (arith, total_at_lem ticket1.owners vs g.ends.count, g.ends.obeys, g.kept 1 (omega arith), g.kept 2 (omega arith)));
})

-- the same window once more: the camera's count rises
pub narrowed_same : (n : ℕ) → n ≢ 65535 → commit (tick1 n) (asking 0 1 10 10) ≡ accepted (tick1 (suc n))
unfolding cause fits at_most above below weight weights
narrowed_same n h = commit_is (tick1 n) (asking 0 1 10 10) (span 10 10 ∷ span 8 14 ∷ []) (rw (ne_eqb n 65535 h)) (record {
  allowed = test_grows ticket1 (true ∷ false ∷ []) (span 10 10 ∷ span 8 14 ∷ []) (span 10 10 ∷ span 8 14 ∷ []) (unfold grows keeps upto in tt);
  widest = λ vs g. omega (arith, total_at_lem ticket1.owners vs g.ends.count, g.ends.obeys, g.kept 1 (omega arith), g.kept 2 (omega arith));
  earliest = λ vs g t. sooner_at (span 10 10 ∷ span 8 14 ∷ []) vs
      (omega (arith, total_at_lem ticket1.owners vs g.ends.count, g.ends.obeys, g.kept 1 (omega arith), g.kept 2 (omega arith)));
})

-- it does not grow back, whatever the count is
pub narrowed_stays : (n : ℕ) → commit (tick1 n) (asking 0 1 6 10) ≡ refused 13
unfolding commit cause fits at_most above below
narrowed_stays n = refl

pub narrowed_full : commit (tick1 65535) (asking 0 1 10 10) ≡ refused 18
unfolding commit cause fits at_most above below
narrowed_full = refl

pub counted_own : commit (tick1 65535) (asking 2 2 14 14) ≡ accepted (both1 65535)
unfolding cause fits at_most above below weight weights
counted_own = commit_is (tick1 65535) (asking 2 2 14 14) (span 10 10 ∷ span 14 14 ∷ []) refl (record {
  allowed = test_grows ticket1 (true ∷ true ∷ []) (span 10 10 ∷ span 14 14 ∷ []) (span 10 10 ∷ span 14 14 ∷ []) (unfold grows keeps upto in tt);
  widest = λ vs g. omega (arith, total_at_lem ticket1.owners vs g.ends.count, g.ends.obeys, g.kept 1 (omega arith), g.kept 2 (omega arith));
  earliest = λ vs g t. sooner_at (span 10 10 ∷ span 14 14 ∷ []) vs
      (omega (arith, total_at_lem ticket1.owners vs g.ends.count, g.ends.obeys, g.kept 1 (omega arith), g.kept 2 (omega arith)));
})

-- ---- 02, change 7: P4 and P10 with other owners

-- the camera between two events of the stage has all the width
pub camera_between : plan (owned4 (3 ∷ 0 ∷ 3 ∷ [])) ≡ accepted (state (owned4 (3 ∷ 0 ∷ 3 ∷ [])) (span 5 5 ∷ span 0 5 ∷ span 0 0 ∷ []) (false ∷ false ∷ false ∷ []) (five 0 0 0 0 0))
unfolding is_schedule fits at_most above below weight weights
camera_between = plan_is (owned4 (3 ∷ 0 ∷ 3 ∷ [])) (0 ∷ 0 ∷ 0 ∷ []) (span 5 5 ∷ span 0 5 ∷ span 0 0 ∷ []) tt (record {
  allowed = fits_ends (owned4 (3 ∷ 0 ∷ 3 ∷ [])) (span 5 5 ∷ span 0 5 ∷ span 0 0 ∷ []) tt;
  widest = λ vs e. omega (arith, total_at_lem (3 ∷ 0 ∷ 3 ∷ []) vs e.count, e.obeys, e.ordered 1, e.ordered 2, e.ordered 3, e.inside 1);
  earliest = λ vs e t. sooner_at (span 5 5 ∷ span 0 5 ∷ span 0 0 ∷ []) vs
      (omega (arith, total_at_lem (3 ∷ 0 ∷ 3 ∷ []) vs e.count, e.obeys, e.ordered 1, e.ordered 2, e.ordered 3, e.inside 1));
})

-- of the database alone: the earliest fit set
pub database_alone : plan (owned4 (4 ∷ 4 ∷ 4 ∷ [])) ≡ accepted (state (owned4 (4 ∷ 4 ∷ 4 ∷ [])) (span 0 0 ∷ span 0 0 ∷ span 0 0 ∷ []) (false ∷ false ∷ false ∷ []) (five 0 0 0 0 0))
unfolding is_schedule fits at_most above below weight weights
database_alone = plan_is (owned4 (4 ∷ 4 ∷ 4 ∷ [])) (0 ∷ 0 ∷ 0 ∷ []) (span 0 0 ∷ span 0 0 ∷ span 0 0 ∷ []) tt (record {
  allowed = fits_ends (owned4 (4 ∷ 4 ∷ 4 ∷ [])) (span 0 0 ∷ span 0 0 ∷ span 0 0 ∷ []) tt;
  widest = λ vs e. omega (arith, total_at_lem (4 ∷ 4 ∷ 4 ∷ []) vs e.count);
  earliest = λ vs e t. sooner_at (span 0 0 ∷ span 0 0 ∷ span 0 0 ∷ []) vs (omega arith);
})

-- camera and database: a tick of the database counts nothing, so its window is the earliest
pub camera_database : plan (owned10 (0 ∷ 4 ∷ [])) ≡ accepted (state (owned10 (0 ∷ 4 ∷ [])) (span 0 5 ∷ span 0 0 ∷ []) (false ∷ false ∷ []) (five 0 0 0 0 0))
unfolding is_schedule fits weight weights
camera_database = plan_is (owned10 (0 ∷ 4 ∷ [])) (0 ∷ 0 ∷ []) (span 0 5 ∷ span 0 0 ∷ []) tt (record {
  allowed = fits_ends (owned10 (0 ∷ 4 ∷ [])) (span 0 5 ∷ span 0 0 ∷ []) tt;
  widest = λ vs e. omega (arith, total_at_lem (0 ∷ 4 ∷ []) vs e.count, e.inside 1);
  earliest = λ vs e t. sooner_at (span 0 5 ∷ span 0 0 ∷ []) vs (omega (arith, total_at_lem (0 ∷ 4 ∷ []) vs e.count, e.inside 1));
})

-- its window contains its former one, at weight 0 too
pub database_contains : commit record10 (asking 0 1 2 2) ≡ accepted (state (owned10 (0 ∷ 4 ∷ [])) (span 2 2 ∷ span 0 3 ∷ []) (true ∷ false ∷ []) (five 1 0 0 0 0))
unfolding cause fits at_most above below weight weights
database_contains = commit_is record10 (asking 0 1 2 2) (span 2 2 ∷ span 0 3 ∷ []) refl (record {
  allowed = test_grows (owned10 (0 ∷ 4 ∷ [])) (true ∷ false ∷ []) (span 2 2 ∷ span 1 3 ∷ []) (span 2 2 ∷ span 0 3 ∷ []) (unfold grows keeps upto in tt);
  widest = λ vs g. omega (arith, total_at_lem (0 ∷ 4 ∷ []) vs g.ends.count, g.kept 1 (omega arith));
  earliest = λ vs g t. sooner_at (span 2 2 ∷ span 0 3 ∷ []) vs (omega (arith, g.kept 1 (omega arith), g.kept 2 (omega arith)));
})

-- ---- the table of distances

-- the rules, without signs
rules1 : (us : List ℕ) → Schedule ticket1 us
    → (time us 1 ≤ 15) × (5 ≤ time us 1) × (time us 2 ≤ 20) × (8 ≤ time us 2) × (time us 2 ≤ time us 1 + 4) × (time us 1 ≤ time us 2 + 2)
unfolding above below
rules1 us s = omega (
  arith,
  (signed (time us 0) (time us 1) (pos 15)).0 s.obeys.0,
  (signed (time us 1) (time us 0) (minus 5)).0 s.obeys.1.0,
  (signed (time us 0) (time us 2) (pos 20)).0 s.obeys.1.1.0,
  (signed (time us 2) (time us 0) (minus 8)).0 s.obeys.1.1.1.0,
  (signed (time us 1) (time us 2) (pos 4)).0 s.obeys.1.1.1.1.0,
  (signed (time us 2) (time us 1) (pos 2)).0 s.obeys.1.1.1.1.1.0,
)

-- an entry: a schedule that shows it, and that the rules allow no more
entry1 : (i j : ℕ) (z : ℤ) (ts : List ℕ) → T (is_schedule ticket1 ts) → sub_ℕ (time ts j) (time ts i) ≡ z
    → ((us : List ℕ) → Schedule ticket1 us → time us j + below z ≤ time us i + above z) → distance ticket1 i j ≡ z
entry1 i j z ts t e f = distance_is ticket1 i j z ts (test_schedule ticket1 ts t) e (λ us s. (signed (time us i) (time us j) z).1 (f us s))

pub distances1 : rows 3 3 (distance ticket1) ≡ pos 0 ∷ pos 15 ∷ pos 19 ∷ minus 5 ∷ pos 0 ∷ pos 4 ∷ minus 8 ∷ pos 2 ∷ pos 0 ∷ []
unfolding tab is_schedule at_most above below
distances1 = rw (
  entry1 0 0 (pos 0) (5 ∷ 8 ∷ []) tt refl (λ us s. omega arith),
  entry1 0 1 (pos 15) (15 ∷ 19 ∷ []) tt refl (λ us s. omega (arith, rules1 us s)),
  entry1 0 2 (pos 19) (15 ∷ 19 ∷ []) tt refl (λ us s. omega (arith, rules1 us s)),
  entry1 1 0 (minus 5) (5 ∷ 8 ∷ []) tt refl (λ us s. omega (arith, rules1 us s)),
  entry1 1 1 (pos 0) (5 ∷ 8 ∷ []) tt refl (λ us s. omega arith),
  entry1 1 2 (pos 4) (15 ∷ 19 ∷ []) tt refl (λ us s. omega (arith, rules1 us s)),
  entry1 2 0 (minus 8) (5 ∷ 8 ∷ []) tt refl (λ us s. omega (arith, rules1 us s)),
  entry1 2 1 (pos 2) (10 ∷ 8 ∷ []) tt refl (λ us s. omega (arith, rules1 us s)),
  entry1 2 2 (pos 0) (5 ∷ 8 ∷ []) tt refl (λ us s. omega arith),
)

pub consistent1 : T (consistent ticket1)
unfolding is_schedule at_most
consistent1 = (consistent_has ticket1).1 (5 ∷ 8 ∷ [], test_schedule ticket1 (5 ∷ 8 ∷ []) tt)

causeless1 : rules_cause 2 ticket1.rules ≡ 0
unfolding rules_cause rule_cause or_else
causeless1 = refl

pub p1_table : (out : List ℤ) → 1681 ≤ length out
    → table_of 20 2 ticket1.rules out ≡ (0, (pos 0 ∷ pos 15 ∷ pos 19 ∷ minus 5 ∷ pos 0 ∷ pos 4 ∷ minus 8 ∷ pos 2 ∷ pos 0 ∷ []) ++ drop 9 out)
unfolding tab
p1_table out wide =
    sym (accepts 20 2 ticket1.rules out
    (cause_last 20 2 ticket1.rules (length out) wide (omega arith) (omega arith) (omega arith) true causeless1 (plain_consistent ticket1 consistent1)))
    ∙ simp (plain_distance ticket1 consistent1) (cc distances1)
