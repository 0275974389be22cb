-- What crate mend rests on. To believe its contracts read `mending`'s Mending, and `returned` and `told` here, and `ticket`'s Refusal.
--   Steps  what the code has answered and written at each of its returns
pub mod Returned
pub mod Steps
