-- What crate part rests on. To believe its contracts read `parts`' Parting, `numbered_in` in Stored, `returned` and `told` in Returned, and `ticket`'s Refusal.
--   Steps  what the code has answered and written at each of its returns
pub mod Returned
pub mod Stored
pub mod Steps
