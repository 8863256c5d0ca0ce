-- The laws that the proofs of `move_edges` cite. Assumes nothing.
pub mod Following
pub mod Counting
pub mod Checking
