-- What crate lift rests on. To believe the contract of `lift` read the type `Lifts`; of crate network Stored, Index and Grow (`Impossible`).
-- Lift.visit_passes: one visit; .going_next: one node of the queue; .lift_held, .lift_ends: what a lift comes to.
pub mod Lift
