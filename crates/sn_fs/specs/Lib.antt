pub mod Filesystem
pub mod Looking
