-- What the proofs of several functions share. Assumes nothing.
pub mod Any
pub mod Parts
pub mod Tables
pub mod Searches
pub mod Eight
pub mod Choosing
pub mod Told
