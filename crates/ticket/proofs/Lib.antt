-- The theorems of crate ticket, and the lemmas under them; specs/Lib says which answers what.
pub mod Laws
pub mod Refusals
pub mod Width
pub mod Signed
pub mod Fields
pub mod Stages
pub mod RoundTrip
pub mod Bytes
pub mod Former
pub mod Malformed
pub mod Sizes
pub mod Prefix
pub mod WritingLaws
pub mod WriteStages
pub mod Agree
pub mod Content
pub mod Example
