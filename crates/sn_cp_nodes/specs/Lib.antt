pub mod Parts
pub mod Inodes
pub mod Made
pub mod Built
pub mod Laws
