-- What the two questions find. Assumes nothing.
pub mod Hits
pub mod EndHits
