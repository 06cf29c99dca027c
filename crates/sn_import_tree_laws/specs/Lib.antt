pub mod Copies
pub mod Targets
pub mod Reports
pub mod Laws
