pub mod ServingLemmas
pub mod StreamLemmas
