-- The definitions that the contracts of `graph_depth_first` cite. Assumes nothing.
pub mod Lent
pub mod Lists
pub mod Order
pub mod Search
pub mod Steps
