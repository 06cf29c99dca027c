pub mod Live
pub mod Looking
