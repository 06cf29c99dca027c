pub mod Bits
pub mod Free
