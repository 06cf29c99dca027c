pub mod Rows
pub mod Counts
pub mod Climbs
pub mod Faults
pub mod Roots
pub mod Laws
