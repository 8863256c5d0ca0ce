-- The bench cases: what a case is, the cases, and the one test of them all; choices of a merge target with theirs. Assumes nothing.
pub mod Run
pub mod MoveParts
pub mod MoveBasics
pub mod MovePlaces
pub mod MoveEdges
pub mod Moves
pub mod Loadings
pub mod Ranks
pub mod MergeRun
pub mod Merges
pub mod Cases
pub mod Targets
