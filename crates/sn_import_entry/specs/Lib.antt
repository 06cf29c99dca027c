pub mod Acls
pub mod Forms
pub mod Entries
