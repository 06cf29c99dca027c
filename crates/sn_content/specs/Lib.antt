pub mod Contents
pub mod Laws
