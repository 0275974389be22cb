-- What crate part_network rests on. To believe its contracts read in Points the record Placed, in Lay `bound_in`, Ranged and Lays, in Dense `dense`, and what crates
-- network and demands say of stored edges; the rest are laws.
pub mod Points
pub mod Lay
pub mod Dense
