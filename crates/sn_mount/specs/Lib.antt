pub mod Costs
pub mod FoundDisk
pub mod Settling
pub mod Rooting
pub mod Recovering
