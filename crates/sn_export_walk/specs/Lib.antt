pub mod Archives
pub mod Visiting
pub mod Untold
