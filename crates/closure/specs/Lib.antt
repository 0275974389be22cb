-- The matrix of distances: working entries, what they mean after each stop, why they become the distances, and how they are written.
-- Rests on `temporal` and `paths`. The contracts speak of Matrix (entries, a stop, floors), Start (the first entries), Stops (the entries after some
-- stops), Meaning (the shortest paths that these are) and Steps (what the loops promise). ShortestPaths proves that meaning, and that the distances are the
-- shortest paths; Answers says what a closed matrix means: `temporal`'s distances and output, or that there is no schedule.
pub mod Cases
pub mod Signed
pub mod Matrix
pub mod Start
pub mod Plain
pub mod Stops
pub mod Distances
pub mod Meaning
pub mod ShortestPaths
-- the loops, one file for each, and the answers
pub mod Steps
pub mod Rows
pub mod Closing
pub mod Written
pub mod Answers
