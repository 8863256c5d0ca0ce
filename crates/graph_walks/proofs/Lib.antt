-- The laws that the proofs of `graph_walks` cite. Assumes nothing.
pub mod Moves
pub mod Layer
pub mod Ends
pub mod EndLaws
pub mod Places
