-- The laws that the proofs of `graph_slots` cite. Assumes nothing.
pub mod Turned
