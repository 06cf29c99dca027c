pub mod Reading
pub mod Staying
