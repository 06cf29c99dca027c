pub mod Numbers
pub mod Joined
pub mod Words
pub mod Again
