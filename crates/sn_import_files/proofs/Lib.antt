pub mod Parts
pub mod Awaiting
pub mod Filled
pub mod Contents
pub mod Entry
