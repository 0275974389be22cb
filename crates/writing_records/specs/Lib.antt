-- What crate writing_records rests on. To believe the contract of `write_record` read Writing and Refusal in crate ticket.
-- Parts says what the functions on the way take out of a struct and put into the output; Stores has the laws of the output.
pub mod Parts
pub mod Stores
