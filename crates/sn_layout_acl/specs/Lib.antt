pub mod AclBlock
pub mod AclEntry
pub mod Mode
