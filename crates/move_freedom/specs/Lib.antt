-- The definitions that the contracts of `move_freedom` cite. Assumes nothing.
pub mod Steps
pub mod Tally
pub mod Reach
pub mod Rest
pub mod Walks
pub mod Aside
pub mod Atoms
