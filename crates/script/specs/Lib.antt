-- What crate script promises of the memory that is lent to a call: all of Lent is to be read.
pub mod Lent
