pub mod Flags
pub mod Replies
pub mod Messages
