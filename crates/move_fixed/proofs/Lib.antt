-- The laws that the proofs of `move_fixed` cite. Assumes nothing.
pub mod Flagging
