pub mod Back
pub mod Live
pub mod Marks
