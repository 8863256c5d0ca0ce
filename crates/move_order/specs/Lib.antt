-- The start order for a desk, and its laws. Assumes nothing.
pub mod Order
pub mod Names
pub mod Listing
pub mod Ready
pub mod Wanted
pub mod Example
