pub mod Numbers
pub mod Heads
pub mod Links
pub mod Changes
pub mod Spelled
