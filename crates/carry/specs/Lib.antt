-- What crate carry rests on. To believe its contracts read in Carry the records Share, Wanted and Carried; of crate edge in Limit the record EdgeFits, of crate network Stored.
-- The rest are steps of the proofs.
pub mod Carry
