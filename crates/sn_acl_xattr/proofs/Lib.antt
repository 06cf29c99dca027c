pub mod Sorting
pub mod Raws
