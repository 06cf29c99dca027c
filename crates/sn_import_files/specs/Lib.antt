pub mod Streams
pub mod Files
pub mod Entries
