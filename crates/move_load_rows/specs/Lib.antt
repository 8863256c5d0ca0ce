-- The checks of a move graph's load: what they test, and what a load is that passes them. Assumes nothing.
pub mod Checks
pub mod Legal
pub mod EntrySets
