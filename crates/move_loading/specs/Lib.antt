-- The definitions that the contracts of `move_loading` cite. Assumes nothing.
pub mod Start
pub mod Steps
pub mod New
