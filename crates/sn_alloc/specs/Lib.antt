pub mod BlockAllocator
pub mod Taking
