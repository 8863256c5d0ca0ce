-- The lines that the program `moves` prints: numbers in base ten, words, and the reply to each answer. Assumes nothing.
pub mod Decimal
pub mod Words
pub mod Room
pub mod Wrote
