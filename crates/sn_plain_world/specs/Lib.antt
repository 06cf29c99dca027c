pub mod Plain
pub mod PlainRuns
pub mod Served
