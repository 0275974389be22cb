-- Laws for the proofs of the code in src/lib.rt. The causes stand in `temporal` (Plan), room and clearing in `runs` (Calls).
--   Structs     what the structs of `ticket` hold, and the records that the code hands on
--   FirstCause  the first cause to refuse a commitment, by the numbers in a record's arrays
--   Room        what the answer of `short` says of the output and the scratch
--   Zeroed      clearing the scratch
pub mod Structs
pub mod FirstCause
pub mod Room
pub mod Zeroed
