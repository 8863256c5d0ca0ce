-- The laws that the proofs of `merge_loading` cite. Assumes nothing.
pub mod Laws
pub mod Chunks
