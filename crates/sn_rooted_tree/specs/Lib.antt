pub mod Looks
pub mod Counting
pub mod Frozen
pub mod FrozenLaws
pub mod LookLaws
pub mod Nodes
pub mod Numbering
