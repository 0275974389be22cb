-- The theorems of crate rings, and the lemmas under them; specs/Lib says which answers what.
pub mod Order
pub mod Turns
pub mod Ring
pub mod Loops
pub mod Shorten
pub mod Schedules
pub mod Printed
pub mod Costs
pub mod Greedy
pub mod Examples
