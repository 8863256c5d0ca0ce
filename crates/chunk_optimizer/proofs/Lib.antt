-- What the proofs of the calls share. Assumes nothing.
pub mod Refused
