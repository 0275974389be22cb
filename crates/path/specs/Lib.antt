-- What crate path rests on. To believe the contract of `push` read in Push the records Loaded, Pushed and Sends, and the types that they name; of crate network Stored and Flow,
-- of crate search Tree. Way: the way from a node to the root, link by link. Push.pushed_more: one link more.
pub mod Way
pub mod Push
