pub mod Served
pub mod Paces
pub mod Pacing
