pub mod Checksums
pub mod Entries
pub mod Lasting
pub mod Left
pub mod Spelled
