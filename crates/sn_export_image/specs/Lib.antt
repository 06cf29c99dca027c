pub mod Worlds
pub mod Faults
