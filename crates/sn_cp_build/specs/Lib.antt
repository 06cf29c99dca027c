pub mod Edits
pub mod Bits
pub mod Planned
pub mod Building
