pub mod Fronts
pub mod Sessions
pub mod Conversations
pub mod Connections
