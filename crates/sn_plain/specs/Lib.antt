pub mod Moves
pub mod Plain
pub mod Stored
