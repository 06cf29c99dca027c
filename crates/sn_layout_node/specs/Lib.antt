pub mod Directory
pub mod DirectoryEntry
pub mod Indirect
pub mod Inode
