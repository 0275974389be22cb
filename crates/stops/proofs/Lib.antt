-- The theorems of crate stops, and the lemmas under them; specs/Lib says which answers what.
pub mod After
pub mod Meant
pub mod Worked
pub mod Examples
pub mod Steps
