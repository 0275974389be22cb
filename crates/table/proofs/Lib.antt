-- The lemmas of crate table.
pub mod Rules
