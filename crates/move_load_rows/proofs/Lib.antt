-- The laws that the proofs of `move_load_rows` cite. Assumes nothing.
pub mod Searching
pub mod Spans
pub mod SetLaws
pub mod Rows
