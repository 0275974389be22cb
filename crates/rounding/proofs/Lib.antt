-- The theorems of crate rounding, and the lemmas under them; specs/Lib says which answers what.
pub mod Round
pub mod Scale
pub mod Rounded
pub mod Finer
pub mod FinerRun
pub mod Examples
