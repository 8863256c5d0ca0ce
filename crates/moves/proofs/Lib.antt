-- What the loops of `moves` keep. Assumes nothing.
pub mod Turning
