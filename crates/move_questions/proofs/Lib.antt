-- The laws that the proofs of `move_questions` cite. Assumes nothing.
pub mod Asking
pub mod Listing
