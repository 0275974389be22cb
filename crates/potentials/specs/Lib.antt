-- What crate potentials rests on. To believe its contracts read Within in Arrays, and Nodes, Pairs, Read and `loosened` in Pairs. The contracts of the crates
-- above it speak of `window_list`, `flag_list`, Held, Given and Lie in Arrays and of `close_node` in Nodes; the rest are laws.
-- Nodes.potential_windows: windows and potentials, there and back. Pairs.pairs_potential, limited, read_windows_lem: what is stored, as windows and potentials.
pub mod Arrays
pub mod Nodes
pub mod Pairs
