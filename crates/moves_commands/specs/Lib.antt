-- The program `moves` over its ledger, and over the move graph's area. Assumes nothing.
pub mod Program
pub mod Few
pub mod Fits
pub mod Feed
pub mod Steps
