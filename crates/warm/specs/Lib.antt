-- What crate warm rests on: its contracts are about crate network's Potential, that of `shift` about Center's record Shifted, that of `highest` about Highest's.
-- Widen.raised_potential, .lowered_potential: a node that rises or sinks keeps a potential. Center.shifted_potential: so do all nodes that rise together.
pub mod Widen
pub mod Center
pub mod Highest
