-- Laws for the proofs of the code in src/lib.rt. What the calls mean stands in crate `runs` (Calls), with the theorem over runs.
--   Returned  what an outcome and an answer are by their numbers: the contracts are equations through it
--   Steps     one planning and one commitment as the code takes them
--   Meets     what the inner functions leave before the scratch is cleared
pub mod Returned
pub mod Steps
pub mod Meets
