-- What holds of the definitions. Assumes nothing.
pub mod Alone
pub mod AtomCount
pub mod Free
pub mod Joins
pub mod NodeFree
pub mod Present
