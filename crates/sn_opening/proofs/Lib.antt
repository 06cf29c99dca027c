pub mod SpelledLemmas
pub mod CoveringLemmas
pub mod OpeningLemmas
pub mod MomentLemmas
pub mod LogLemmas
pub mod PointLemmas
pub mod StepLemmas
