-- What the readers of a load answer. Assumes nothing.
pub mod View
