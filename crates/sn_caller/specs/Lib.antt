pub mod Called
pub mod Choosing
pub mod Numbering
pub mod Told
