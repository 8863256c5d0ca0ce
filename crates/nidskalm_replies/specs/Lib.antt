-- What the replies say, and a law. Assumes nothing.
pub mod Replies
pub mod ReplyLaws
