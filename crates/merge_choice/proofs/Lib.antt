-- What holds of the definitions. Assumes nothing.
pub mod Chosen
pub mod Classes
pub mod Guards
pub mod Search
