-- The definitions that the contracts of `graph_neighbours` cite, and their laws. Assumes nothing.
pub mod Groups
pub mod Steps
pub mod Parts
pub mod Direction
pub mod Followed
pub mod Lists
pub mod Grouped
