pub mod Changes
pub mod Laws
pub mod Reads
pub mod Stored
pub mod Unread
