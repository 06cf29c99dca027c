pub mod Exchanging
pub mod Telling
