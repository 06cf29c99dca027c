pub mod Groups
pub mod Restoring
