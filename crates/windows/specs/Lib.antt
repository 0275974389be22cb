-- What crate windows rests on. To believe the contracts of its public functions read Promises (Workspace, `Planned`, `Committed`) and in Settle the record Asked;
-- they are said with temporal's `plan` and `commit`. Weights has what `weigh` leaves for crate flow. The rest are laws.
-- Widest.potential_chosen: the best potential gives the best windows. Boxes.free_chosen, boxes_chosen: those within the boxes are the plan's, and the commitment's.
pub mod Promises
pub mod Weights
pub mod Boxes
pub mod Widest
pub mod Settle
