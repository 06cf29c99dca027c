pub mod Bytes
pub mod Records
