-- The law that the proofs of `moves_answers` cite. Assumes nothing.
pub mod Sets
