-- What holds of the definitions. Assumes nothing.
pub mod Outcome
pub mod TriedLaws
pub mod Counting
pub mod Rooms
