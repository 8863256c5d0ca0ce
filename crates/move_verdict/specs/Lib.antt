-- The definitions that the contracts of `move_verdict` cite. Assumes nothing.
pub mod Verdict
