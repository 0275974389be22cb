-- What crate admit rests on. To believe the contract of `admit` read the types Admissible and `Admits`; of crate network Stored, Index, Edges and Grow (`Growing`, `Impossible`).
-- Admit.admits_yes, admits_no: an edge is refused only where no potential meets it.
pub mod Admit
