-- The program's commands byte by byte, and those before the load. Assumes nothing.
pub mod Machine
pub mod Lists
pub mod Lent
