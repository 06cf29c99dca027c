pub mod Nodes
pub mod Live
pub mod Prepared
pub mod Unnamed
