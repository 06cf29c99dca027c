pub mod Answers
pub mod Groups
pub mod Messages
pub mod Dating
pub mod Exchanges
