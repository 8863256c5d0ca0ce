-- The laws that the proofs of `merge_warning` cite. Assumes nothing.
pub mod Closing
