pub mod Dropping
pub mod Faults
pub mod Restored
pub mod Turned
pub mod World
