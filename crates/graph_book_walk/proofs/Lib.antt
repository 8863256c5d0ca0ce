-- The laws that the proofs of `graph_book_walk` share. Assumes nothing.
mod Falling
mod Colours
mod Rounds
