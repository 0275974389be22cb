-- What crate select rests on. To believe the contract of `mend_ticket` read `mending`'s Selection; the rest are laws.
--   Selecting  the loop over the rules: `selecting_kept` and `selecting_dropped` are its two turns, `selecting_mended` and `selecting_listed` its end
pub mod Selecting
