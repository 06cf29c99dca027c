pub mod Catalogue
pub mod Laws
