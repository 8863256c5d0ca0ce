-- What the rows before a later call are told by. Assumes nothing.
pub mod Later
pub mod Listed
