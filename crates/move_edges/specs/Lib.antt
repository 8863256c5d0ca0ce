-- The definitions that the contracts of `move_edges` cite, and their laws. Assumes nothing.
pub mod Matrix
pub mod Steps
pub mod Rows
