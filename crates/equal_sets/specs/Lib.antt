-- Sets laid into lanes, and whether they repeat. Assumes nothing.
pub mod Laid
