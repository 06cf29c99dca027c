pub mod Names
pub mod SnapshotName
pub mod Versions
