-- The theorems of crate parts, and the lemmas under them; specs/Lib says which answers what.
pub mod AllRules
pub mod Sums
pub mod Members
pub mod PartDistance
pub mod PartEarliest
pub mod PartFit
pub mod PartTotal
pub mod Parts
pub mod Parting
pub mod Parted
pub mod OneEvent
pub mod Examples
