-- The questions about a move graph, by nodes. Assumes nothing.
pub mod Permute
pub mod Counts
pub mod Steps
pub mod StepLaws
pub mod Answers
