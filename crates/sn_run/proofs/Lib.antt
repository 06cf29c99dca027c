pub mod CauseLemmas
pub mod EndingLemmas
pub mod CutLemmas
pub mod FailureLemmas
mod PointedLemmas
pub mod RestartLemmas
pub mod RunLemmas
mod UnfitLemmas
