pub mod Doing
pub mod Looks
