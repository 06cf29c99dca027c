pub mod Streams
pub mod Visits
pub mod Writing
