-- Laws that the proofs of `move_consistency` share. Assumes nothing.
pub mod Ranging
pub mod Matching
pub mod Flagging
pub mod Working
pub mod Summing
pub mod Checking
