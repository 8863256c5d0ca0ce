-- What the start of a walk does to the counter and the marks. Assumes nothing.
pub mod Marks
