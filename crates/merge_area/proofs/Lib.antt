-- The laws that the proofs of `merge_area` cite. Assumes nothing.
pub mod Counting
pub mod Laws
pub mod Merging
