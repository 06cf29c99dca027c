pub mod Maps
pub mod Charges
pub mod Logs
pub mod Disks
pub mod Faults
pub mod Verdicts
pub mod Standing
pub mod Laws
