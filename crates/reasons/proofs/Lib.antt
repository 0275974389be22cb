-- The theorems of crate reasons, and the lemmas under them; specs/Lib says which answers what.
pub mod Reading
pub mod Size
pub mod Reasoning
pub mod Reasoned
pub mod Examples
