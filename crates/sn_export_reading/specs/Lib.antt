pub mod Serving
pub mod Faults
