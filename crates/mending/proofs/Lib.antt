-- The theorems of crate mending, and the lemmas under them; specs/Lib says which answers what.
pub mod Mending
pub mod Steps
pub mod Split
pub mod Laws
pub mod Mended
pub mod Examples
