-- The definitions that the contracts of `graph_walks` cite. Assumes nothing.
pub mod Marks
pub mod Spread
pub mod Closed
pub mod ClosedLaws
pub mod Counted
pub mod Places
pub mod Ends
pub mod Reads
