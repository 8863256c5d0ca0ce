-- The area of a merge graph: its places, what it holds, its writes, when it is consistent, and calls on it. Assumes nothing.
pub mod Layout
pub mod Read
pub mod Writes
pub mod Consistent
pub mod Calls
pub mod Within
pub mod Twice
pub mod FlagRows
pub mod Faults
pub mod Merged
