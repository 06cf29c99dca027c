pub mod MoveLemmas
pub mod LaidLemmas
pub mod ChargeLemmas
