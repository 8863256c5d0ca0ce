-- The sizes of a call, and the laws of its reply. Assumes nothing.
pub mod Sized
pub mod ReplyLaws
