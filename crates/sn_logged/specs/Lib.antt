pub mod Moves
pub mod Laid
