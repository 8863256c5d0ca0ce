-- The area of a move graph. Assumes nothing.
pub mod Bodies
pub mod BodyLaws
pub mod Area
pub mod Fixed
pub mod Calls
pub mod ListLaws
pub mod Held
pub mod FixedLaws
pub mod CallLaws
pub mod History
pub mod NodeBodies
pub mod Checked
