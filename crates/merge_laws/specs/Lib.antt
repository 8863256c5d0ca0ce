-- What a call may rely on once no row refuses it. Assumes nothing.
pub mod Rows
pub mod Can
pub mod Merging
pub mod Keeps
pub mod Ordering
pub mod May
