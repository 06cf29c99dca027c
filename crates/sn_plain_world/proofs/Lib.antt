pub mod AskedLemmas
pub mod StepLemmas
pub mod ViewLemmas
