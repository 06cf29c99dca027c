pub mod Telling
pub mod Xattrs
pub mod Acls
pub mod Room
pub mod Messages
