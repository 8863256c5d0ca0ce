-- The definitions that the contracts of `move_consistency` cite. Assumes nothing.
pub mod Ranges
pub mod Matched
pub mod Flags
pub mod Totals
pub mod Ready
