-- The definitions that the contracts of `move_try` cite, and their laws. Assumes nothing.
pub mod Stands
pub mod Areas
pub mod Changes
pub mod Grown
pub mod Registering
pub mod Outcome
pub mod Test
pub mod Reached
pub mod Commit
pub mod Trial
pub mod Settle
pub mod Early
pub mod Target
pub mod Tried
