-- What crate reading_records rests on. To believe the contract of `read_record` read Stored and Refusal in crate ticket.
-- Parts says what the functions on the way answer; the other modules are the laws that their proofs cite.
pub mod Parts
pub mod Rest
