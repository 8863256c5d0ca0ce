-- The laws that the proofs of `moves_replies` cite. Assumes nothing.
pub mod Writing
