-- The graph that an area holds after each write, and the order that consistency gives back. Assumes nothing.
pub mod Fields
pub mod Order
pub mod Cells
pub mod Reads
pub mod Calc
pub mod Pass
