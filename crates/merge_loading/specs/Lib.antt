-- The area after a loading, and its laws. Assumes nothing.
pub mod Loading
pub mod Sets
pub mod Rows
pub mod Bare
pub mod Listing
