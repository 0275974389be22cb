-- The theorems of crate mirror, and the lemmas under them; specs/Lib says which answers what.
pub mod Mirror
pub mod LatestMirror
pub mod Cut
pub mod Structs
