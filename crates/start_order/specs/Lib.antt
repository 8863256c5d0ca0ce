-- The definitions that the contracts of `start_order` cite, and their laws. Assumes nothing.
pub mod Turns
pub mod Roots
pub mod Nodes
pub mod Marked
pub mod Bits
pub mod Lowest
pub mod Steps
pub mod Walked
pub mod Running
pub mod Walking
pub mod Calls
pub mod StepLaws
