-- The laws that the proofs of `moves_commands` cite. Assumes nothing.
pub mod Lines
pub mod Turns
pub mod Lengths
pub mod Feeds
pub mod Alike
