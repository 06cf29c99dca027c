pub mod Decided
pub mod Faults
pub mod Shown
pub mod Views
