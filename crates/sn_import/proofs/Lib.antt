pub mod Slashes
pub mod Pieces
pub mod Depths
