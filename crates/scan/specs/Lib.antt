-- What crate scan rests on. To believe its contracts read in Sweep the records Swept and Scanned, of crate visit Search, and of crate network Stored and Index.
-- Sweep.scanned: the three sweeps at a node visit all edges at it.
pub mod Sweep
