pub mod StepLemmas
pub mod EndLemmas
pub mod CallLemmas
pub mod MeaningLemmas
