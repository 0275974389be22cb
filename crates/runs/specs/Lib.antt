-- The calls on bytes, planning, the latest plan and commitment, and runs of them. Rests on `temporal` (what is decided) and `ticket` (what bytes hold; its
-- `Bytes`, in RoundTrip, says that a list is one of bytes); no code stands here.
--
-- Believe two files, in this order, and the three statements at the head of Latest and of Scratch; everything else is proved of them.
--   Calls     the calls as functions of all they are lent: what is returned, what output and scratch hold afterwards
--   Run       what 01's section "A run" claims, with 02's changes 4, 5 and 11, for any start and any list of commitments
--   Latest    what 02's change 1 claims of the latest plan: `PlannedLatest`, `RunLatest`, `AsPlanning`
--   Scratch   what 02's change 9 claims of lent scratch: `Short`, `Alike`, `Leaves`
-- The theorems:
--   RunHolds    `run`, of every start and every list. It answers demand 3.
--   Refusals    a call refuses exactly where a cause applies, under the number of the first (`plan_refusal`, `commit_refusal`, `commit_accepted`), never under
--               11 or 12 (`commit_neither`), with zeros elsewhere and the output as it was (`plan_zeros`, `latest_zeros`, `commit_zeros`)
--   FromRecord  length and total follow from the record (`plan_tells`, `commit_tells`); the plan of a ticket with no events (`plan_nothing`)
--   Latest      `latest_run`, of every latest plan and every list on its record; it returns and refuses as planning does (`latest_as_planning`,
--               `latest_refusal`); length and total follow from its record (`latest_tells`). It answers 02's change 1.
--   Scratch     10 exactly for short output or scratch (`plan_ten`, `latest_ten`, `commit_ten`); what is returned and written does not depend on the scratch
--               (`plan_alike`, `latest_alike`, `commit_alike`), and what is left in it (`plan_leaves`, `latest_leaves`, `commit_leaves`). It answers 02's change 9.
-- Examples shows the definitions at work: P1 to P10 of 01 as one table, the table of distances and P1's latest plan in it (`examples_hold`); P1's event 1
-- narrowed again as another (`narrowings_hold`), the counts of its two devices as a third (`countings_hold`), P4 and P10 with other owners as a fourth
-- (`weighings_hold`), and callers that are refused P1's events as a fifth (`callings_hold`).
--
-- That the code is these functions is said by its contracts, in crate `plan`.
pub mod Calls
pub mod Run
pub mod Refusals
pub mod FromRecord
pub mod Latest
pub mod Scratch
pub mod SideBySide
pub mod Examples
