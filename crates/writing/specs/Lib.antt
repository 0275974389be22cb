-- What crate writing rests on. To believe the contract of `write_ticket` read Writing and Refusal in crate ticket.
-- Stores has the laws of the output.
pub mod Stores
