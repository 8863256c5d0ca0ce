-- What the flags of fixed atoms ask and show. Assumes nothing.
pub mod Flags
