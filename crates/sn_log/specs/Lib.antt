pub mod Appending
pub mod Clearing
pub mod Heads
pub mod Laws
pub mod Positions
pub mod Replaying
