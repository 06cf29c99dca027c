pub mod Faults
pub mod Fresh
pub mod Writing
