-- The theorems of crate paths, and the lemmas under them; specs/Lib says which answers what.
pub mod Walks
pub mod Repeats
pub mod Shortest
pub mod Structs
