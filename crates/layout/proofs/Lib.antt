-- The laws that the proofs of `layout` cite. Assumes nothing.
pub mod Writes
pub mod Deciding
