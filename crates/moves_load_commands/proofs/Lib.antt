-- The laws that the proofs of `moves_load_commands` cite. Assumes nothing.
pub mod Lists
