-- What the program `chain` does with the bytes that it reads. Assumes nothing.
pub mod Ran
