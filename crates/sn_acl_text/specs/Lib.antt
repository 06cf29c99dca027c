pub mod Long
pub mod Reading
pub mod Laws
