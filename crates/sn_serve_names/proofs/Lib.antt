pub mod Steps
pub mod Ids
