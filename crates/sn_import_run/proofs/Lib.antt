pub mod Awaiting
pub mod Longer
pub mod Granted
pub mod Done
