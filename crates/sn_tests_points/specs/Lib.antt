pub mod Placed
pub mod Running
pub mod Tape
