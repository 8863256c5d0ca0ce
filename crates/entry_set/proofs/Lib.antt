-- The laws that the proofs of `entry_set` cite. Assumes nothing.
pub mod Compare
pub mod Ones
pub mod Places
pub mod Writing
