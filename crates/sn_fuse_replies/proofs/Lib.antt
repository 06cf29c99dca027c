pub mod Differing
pub mod Front
