pub mod Stops
pub mod Acts
pub mod Answers
pub mod Carried
