pub mod Causes
pub mod Ending
pub mod Restarting
pub mod Servers
pub mod Places
pub mod Runs
pub mod Laws
