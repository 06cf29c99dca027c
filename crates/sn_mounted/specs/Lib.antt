pub mod Shown
pub mod Doing
pub mod Runs
