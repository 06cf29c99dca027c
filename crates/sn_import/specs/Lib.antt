pub mod Calls
pub mod Refused
pub mod Writes
pub mod Depths
