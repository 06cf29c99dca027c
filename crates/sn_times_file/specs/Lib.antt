pub mod Kept
pub mod Faults
pub mod Keeping
pub mod Laws
