pub mod Flags
pub mod Messages
