-- The definitions that the contracts of `reduced_chunk_graph` cite, and their laws. Assumes nothing.
pub mod Answers
pub mod Loads
pub mod Moves
pub mod Asked
pub mod MoveLaws
pub mod Ranks
