-- What crate search rests on. To believe its contract read Tree (`Reached`, what a search leaves); of crate network Stored and Index. The rest are steps of the proofs.
-- Nearest.search_nearest: a node with the least key is reached next. Reach.explored_all, explored_goal: how a search ends.
pub mod Tree
pub mod Nearest
pub mod Raise
pub mod Reach
