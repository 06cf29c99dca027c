pub mod FindingLemmas
pub mod ReplacingLemmas
pub mod SlotLemmas
