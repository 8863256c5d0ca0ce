-- The laws that the proofs of `move_loading` cite. Assumes nothing.
pub mod Tabbing
pub mod Starting
pub mod Reading
pub mod Loaded
pub mod Flagging
