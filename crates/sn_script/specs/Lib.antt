pub mod Lines
pub mod Reading
pub mod Scripts
pub mod Replies
