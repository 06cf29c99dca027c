pub mod Asking
pub mod Planning
pub mod Making
pub mod Going
pub mod Recovering
