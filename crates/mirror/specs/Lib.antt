-- The mirror of a ticket (02, change 1): definitions, their theorems, and laws for the code in src/lib.rt. Rests on `temporal`.
--
-- Believe the section of definitions of one file; everything else is proved of it.
--   Mirror        the mirror of a rule, a ticket, a time, a window
-- The theorems:
--   Mirror        "Mirroring twice gives the rules back" (`rule_twice`, `mirror_twice`, `windows_twice`, `ticks_twice`); schedules, fit sets, total widths and
--                 whether there is a schedule mirror (`schedule_iff`, `fit_iff`, `total_mirror`, `consistent_mirror`)
--   LatestMirror  "the latest plan of the one network is the earliest of the other": `latest_mirror`, and the other way round `earliest_mirror`
--   Cut           "Such a bound may pass a ticket's range": cut at the horizon the mirror is a ticket again where every rule with the start can be kept
--                 (`cut_mirror_valid`), as where there is a schedule (`schedule_possible`), and its plan is the mirror of the latest plan (`plan_latest_cut_mirror`)
--   Structs       the same in arrays, for the code
pub mod Mirror
pub mod Cut
pub mod Structs
