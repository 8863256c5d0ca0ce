-- What the calls are lent and answer. Assumes nothing.
pub mod Answers
pub mod Lent
pub mod Roles
pub mod Sound
