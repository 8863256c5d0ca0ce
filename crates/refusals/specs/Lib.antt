-- The rows of the table of refusals. Assumes nothing.
pub mod Rows
