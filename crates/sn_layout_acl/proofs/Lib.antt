pub mod EntryLists
pub mod AclLists
pub mod Joining
pub mod Spelled
