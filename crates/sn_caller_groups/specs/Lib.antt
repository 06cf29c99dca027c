pub mod Map
pub mod Status
