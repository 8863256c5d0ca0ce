-- What holds of the definitions. Assumes nothing.
pub mod FewerOnAreas
pub mod Fewer
pub mod ReachedOnAreas
pub mod Chain
pub mod Changes
pub mod Demand2
pub mod Demand3
pub mod MergePass
pub mod MergeSwap
pub mod Reached
