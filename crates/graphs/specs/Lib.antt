-- Walks and edge slots, and the laws that both graphs share. Assumes nothing.
pub mod Bools
pub mod Count
pub mod Total
pub mod Lists
pub mod Tab
pub mod Square
pub mod Walk
pub mod Walks
pub mod Relabel
pub mod Slots
pub mod SlotLaws
