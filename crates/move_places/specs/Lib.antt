-- What the scan for the smallest empty set finds. Assumes nothing.
pub mod Least
