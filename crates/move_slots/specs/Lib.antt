-- The definitions that the contracts of `move_slots` cite. Assumes nothing.
pub mod Written
pub mod Slots
pub mod Steps
pub mod Facades
pub mod SlotLaws
pub mod Filled
pub mod Counted
