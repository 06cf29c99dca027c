pub mod Homes
pub mod Laws
