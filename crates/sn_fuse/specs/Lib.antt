pub mod Body
pub mod Forgets
pub mod Message
pub mod Opcode
pub mod Operation
