pub mod Answers
pub mod Copies
pub mod Fault
pub mod Tasks
