pub mod Nodes
pub mod Roots
pub mod Unread
