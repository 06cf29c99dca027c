pub mod Answer
pub mod Errno
pub mod Filled
pub mod Law
pub mod Listing
