-- What holds of the definitions. Assumes nothing.
pub mod Calls
pub mod Running
pub mod TurnsLaws
