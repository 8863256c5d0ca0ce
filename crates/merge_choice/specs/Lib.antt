-- The choice of a candidate's merge target: the definition (Choice, Find), then what the code's parts promise and the laws that tie them to it.
-- Assumes nothing.
pub mod Choice
pub mod Find
pub mod Spans
pub mod Marks
pub mod Named
pub mod Search
pub mod Guards
pub mod Rows
pub mod Chosen
pub mod Classes
