-- The laws that the proofs of `move_slots` cite. Assumes nothing.
pub mod Writing
pub mod Tallying
pub mod Slotting
pub mod Fronting
pub mod Filling
