-- The theorems of crate runs, and the lemmas under them; specs/Lib says which answers what.
pub mod Calls
pub mod RunHolds
pub mod Refusals
pub mod FromRecord
pub mod Latest
pub mod Scratch
pub mod SideBySide
pub mod Examples
