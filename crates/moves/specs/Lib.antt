-- What the program `moves` does with the bytes that it reads. Assumes nothing.
pub mod Bytes
pub mod Turns
