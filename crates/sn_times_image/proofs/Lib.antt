pub mod Beginnings
pub mod Identities
pub mod Marks
pub mod Reading
pub mod Taking
