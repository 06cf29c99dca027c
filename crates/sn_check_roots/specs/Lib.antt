pub mod Words
pub mod Sets
pub mod Laws
pub mod First
pub mod Seen
