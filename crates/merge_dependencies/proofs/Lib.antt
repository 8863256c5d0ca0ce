-- The laws that the proofs of `merge_dependencies` cite. Assumes nothing.
pub mod Parts
