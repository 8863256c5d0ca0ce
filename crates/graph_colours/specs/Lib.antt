-- The book's states and steps of a depth-first search, and what holds of every run of it. Assumes nothing.
pub mod Colours
pub mod States
pub mod Life
