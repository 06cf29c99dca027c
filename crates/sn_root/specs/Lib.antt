pub mod Fault
pub mod Finding
pub mod Following
pub mod Carried
pub mod Laws
pub mod Replacing
pub mod Slots
