pub mod Fault
pub mod Laws
pub mod Marks
pub mod Trees
pub mod Walks
