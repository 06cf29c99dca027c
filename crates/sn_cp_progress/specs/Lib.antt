pub mod Progress
pub mod Meaning
pub mod Laws
