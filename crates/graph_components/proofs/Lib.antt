-- The laws that the proofs of `graph_components` cite. Assumes nothing.
pub mod Parts
pub mod Gathering
pub mod Labels
pub mod Meets
pub mod OnlyOne
