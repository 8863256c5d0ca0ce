-- What the proofs of `merge_pass` share. Assumes nothing.
pub mod Bars
