-- The definitions that the contracts of `set_order` cite, and their laws. Assumes nothing.
pub mod Order
pub mod Parts
pub mod Steps
