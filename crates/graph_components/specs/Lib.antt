-- The definitions that the contracts of `graph_components` cite. Assumes nothing.
pub mod Components
pub mod Only
