pub mod Counts
pub mod Fault
pub mod Laws
pub mod Paths
pub mod Reads
