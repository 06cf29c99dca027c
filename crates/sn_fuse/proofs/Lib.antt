pub mod Bodies
pub mod Forgetting
pub mod Messages
pub mod Opcodes
