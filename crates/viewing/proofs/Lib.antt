-- The theorems of crate viewing, and the lemmas under them; specs/Lib says which answers what.
pub mod View
pub mod Laws
pub mod Viewed
pub mod States
pub mod Noninterference
pub mod Examples
