-- The laws that the proofs of `set_order` cite. Assumes nothing.
pub mod Comparing
pub mod Merging
pub mod Sorting
pub mod Telling
