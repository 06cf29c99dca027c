pub mod Cache
pub mod Counts
pub mod Effects
pub mod Fault
pub mod Lending
