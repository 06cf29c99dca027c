pub mod Members
pub mod Kept
pub mod Contents
pub mod Pieces
pub mod First
pub mod Told
pub mod Files
