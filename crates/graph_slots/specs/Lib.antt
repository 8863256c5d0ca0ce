-- The definitions that the contracts of `graph_slots` cite. Assumes nothing.
pub mod Asked
pub mod Listing
