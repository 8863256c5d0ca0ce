-- What the rows that a question is asked of are. Assumes nothing.
pub mod Lent
