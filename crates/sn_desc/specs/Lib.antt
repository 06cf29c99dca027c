pub mod Seats
pub mod Files
pub mod Holders
pub mod OpenFiles
pub mod InUse
pub mod Closing
pub mod Seeking
pub mod Sessions
