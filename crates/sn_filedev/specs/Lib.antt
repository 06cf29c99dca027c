pub mod LastBlock
pub mod FileDevice
pub mod Gathered
pub mod Runs
