-- What holds of a network while it is built from a text.
pub mod Built
