pub mod Faults
pub mod Leads
pub mod Machine
