-- The state of a merge graph, its methods and its table, and their laws. Assumes nothing.
pub mod State
pub mod Named
pub mod Merges
pub mod Methods
pub mod Table
pub mod Loading
pub mod Warning
pub mod Absorbed
pub mod Ordered
pub mod Pairs
pub mod Kept
pub mod LoadKept
pub mod Counted
pub mod Ends
