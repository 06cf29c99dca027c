pub mod Chains
pub mod Frame
pub mod Gives
pub mod LookUps
pub mod Objects
pub mod Paths
pub mod Views
pub mod Walks
