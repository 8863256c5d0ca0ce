-- The laws that the proofs of `move_verdict` cite. Assumes nothing.
mod Searching
