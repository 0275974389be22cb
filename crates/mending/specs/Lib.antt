-- Mending an impossible ticket (02, change 6). Rests on `temporal` (whether there is a schedule), `ticket` (what bytes hold) and `paths` (rules by their numbers);
-- no code stands here.
--
-- Believe two files, in this order; everything else is proved of them.
--   Selection  which rules are kept, which are dropped, and the mended ticket
--   Mending    the call as a function of all that it is lent: what is returned, what the two outputs hold afterwards
-- The theorems:
--   Laws    the mended ticket has a schedule (`mended_schedule`); one that has a schedule is its own mended ticket, with nothing dropped (`schedule_mended`), so
--           mending twice changes nothing (`mended_twice`); with a dropped rule put back there is no schedule, wherever it is put (`put_back`), at the end
--           (`put_back_last`), at its own place (`put_back_place`); the kept rules are those whose numbers are not in the list (`kept_passing`)
--   Split   kept and dropped together are the rules 1 to m, in their order (`selected_split`)
--   Mended  the call refuses exactly where a cause applies, under the number of the first (`mend_refusal`), which is 1 to 8 or 10 (`mend_number`), never 9
--           (`mend_not_nine`), with zeros and both outputs as they were (`mend_zeros`); otherwise it mends (`mend_written`): `Mended` says all the above of the
--           bytes in the outputs
-- Examples shows the definitions at work: P1 and the impossible tickets of 01's P6 and P7, on bytes (`examples_hold`). Steps has the laws of one step.
--
-- That the code is this selection and this function is said by its contracts, in crates `select` and `mend`.
pub mod Selection
pub mod Mending
pub mod Split
pub mod Laws
pub mod Mended
pub mod Examples
