-- The laws that the proofs of `chain_commands` cite. Assumes nothing.
pub mod Reading
pub mod Chaining
