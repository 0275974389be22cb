-- The lemmas of crate writing.
pub mod Tests
