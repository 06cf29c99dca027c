pub mod Known
pub mod Frozen
pub mod Listing
