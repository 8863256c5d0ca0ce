-- What holds of the definitions. Assumes nothing.
pub mod Life
