-- What crate part_windows rests on. To believe its contracts read in Entries the record Distances, in Planned the records GivenPart and IsPart, and `parts`' Part; the
-- rest are laws. Planned.plan_points: the least of the widest potentials of the part's network gives the windows of its plan.
pub mod Entries
pub mod Planned
