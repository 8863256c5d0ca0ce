-- What holds of the definitions. Assumes nothing.
pub mod Counted
pub mod Kept
pub mod Warning
