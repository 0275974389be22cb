-- What the test exports promise beyond the calls that they pass on: a ticket or a record read and written again, a ticket or a record of given values.
pub mod Rewriting
pub mod Values
