-- Lists laid over a list as fields, tests on a part of a list, and the laws of both. Assumes nothing.
pub mod Patch
pub mod Fields
pub mod Change
pub mod Lent
pub mod Steps
pub mod Compare
