-- What the answers of the calls mean, and laws of their rows. Assumes nothing.
pub mod Answers
pub mod Registering
