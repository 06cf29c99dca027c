pub mod Builds
pub mod Laws
pub mod Recovering
pub mod Snapshots
pub mod Wholes
