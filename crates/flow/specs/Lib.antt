-- What crate flow rests on. To believe the contract of `solve` read Width (what widest and least mean) and in Solve the records Weights, Empty, `Solved` and the type Spans,
-- of crate network Network, `stored` and Kept in Stored and Flowless in Grow;
-- the records of Augment and Solve are what the functions on the way ask and promise, the rest are steps of the proofs.
-- Duality.certified_widest: a balanced flow over edges with no slack proves a potential widest. Least.certified_least: a search from the origin proves it least.
-- Lattice.lower_widest: the lower of two widest potentials is widest. Duality.scaled, Least.scaled_least: a finer grid of times wins nothing.
-- Augment.augmented, Solve.carries_share, .carries_sent: each step keeps a potential that fits its flow. Solve.solved: the end.
pub mod Width
pub mod Duality
pub mod Least
pub mod Lattice
pub mod Augment
pub mod Solve
