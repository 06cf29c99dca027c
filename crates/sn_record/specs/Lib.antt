pub mod Payload
pub mod Sizes
