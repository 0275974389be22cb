-- Windows on grids finer than a tick, counted in q-th parts of one, and that they are no wider than a plan's (02, change 10). Rests on `runs`, `ticket` and
-- `temporal`, and on `network` for sums; no code stands here.
--
-- Believe one file and the claims at the head of another; everything else is proved of them.
--   Grid      schedules and fit windows on a grid of q-th ticks, the sets on it that a commitment allows, and what it means that none is wider
--   FinerRun  `FinerPlan`, `FinerRun`: what is claimed of both plans and of every list of commitments, on bytes
--
-- Which theorem answers which words.
--   "For each whole q from 1 up, .. q times our plan's weighted total is not exceeded by their total counted in q-th parts": `finer_run`, of any bytes that are
--   planned and of every accepted commitment in any list, also from a record from anywhere; `finer_latest`, of the latest plan. Of tickets: `finer_fit`,
--   `finer_allowed`. It is reached on every grid (`one` in `NoneWider`); and a ticket that is refused under 9 has no fit windows on any (`nine`, `finer_none`).
--   "fit windows whose ends are multiples of a q-th tick": they are the fit windows of the ticket with horizon and bounds multiplied by q (`fine_fit`).
--
-- Why: x q-th parts are rounded to whole ticks as (x + s) / q, rounded down, for s from 0 to q - 1. Each rounding keeps every rule, 0 to H and open at most
-- close, so that of fit windows on the grid it leaves fit windows of whole ticks, whose total is at most the plan's (`rounded_fit`). The q roundings of x add
-- up to x (Hermite's identity, `hermite`), so the q totals add up to the total of the windows on the grid (`total_rounded`).
-- Examples has P1 in half and third ticks.
pub mod Grid
pub mod Round
pub mod Scale
pub mod Rounded
pub mod FinerRun
pub mod Examples
