pub mod Changed
pub mod Decided
pub mod Dropped
pub mod Laws
