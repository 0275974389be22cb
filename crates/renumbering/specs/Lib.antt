-- Orders of events.
pub mod Order
pub mod Renumber
pub mod Schedules
pub mod Totals
pub mod Reading
pub mod Plans
pub mod Commitments
pub mod RenumberedRun
pub mod Tables
pub mod PartOrder
pub mod Parts
pub mod RenumberedPart
