-- The laws that the proofs of `graph_depth_first` cite. Assumes nothing.
pub mod Whites
pub mod Moves
pub mod Falling
pub mod Numbers
pub mod Layer
pub mod Rounds
mod Views
