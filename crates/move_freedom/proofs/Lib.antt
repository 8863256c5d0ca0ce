-- The laws that the proofs of `move_freedom` cite. Assumes nothing.
pub mod Flagging
pub mod Counting
pub mod Reached
pub mod Blanking
pub mod Walking
pub mod Asides
pub mod AtomCounts
