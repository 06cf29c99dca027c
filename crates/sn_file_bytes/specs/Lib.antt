pub mod Blocks
pub mod Bytes
