pub mod Opening
pub mod Importing
pub mod Imports
