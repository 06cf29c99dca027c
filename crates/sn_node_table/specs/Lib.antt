pub mod Fresh
pub mod Nodes
pub mod Paths
pub mod Stored
pub mod Tables
pub mod Told
