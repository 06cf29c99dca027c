pub mod Held
pub mod Fitting
pub mod Reading
pub mod Told
